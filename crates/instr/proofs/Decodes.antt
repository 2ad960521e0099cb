-- Where an instruction's fields stand, decoding finds it.
use Prim.Native.Nat.{ℕ, ◌+◌, ◌-◌, ◌≤◌, ◌^◌}
use mathlib.Core.Bool.{Bool, true, false, cond}
use mathlib.Core.List.{List, [], ◌∷◌, ◌++◌}
use mathlib.Core.Path.{◌≡◌, refl, sym, ap, ap₂, ◌∙◌}
use native.Mathlib.Nat.{add-zero}
use native.Mathlib.Omega.{arith}
use lib.Dec.{eqb}
use lib.ListN.{length, drop, length-append, length-drop}
use lib.Seq.{take_at}
use borrow.Author.Tests.{le-leb}
use Rattle.opcode.specs.Table.{Row, carried, float, unassigned, PREFIX}
use Rattle.opcode.specs.Immediate.{Immediates, nothing, index, block_type, word, long, memory, memory_lane, lane_index, sixteen_bytes, sixteen_lanes, immediates, moved_by, lanes_of}
use Rattle.instr.specs.Layout.{u32, Writes, InOrder, immediate_fields, fields_of, row_in, layout, AllowedIn, Allowed, Head, head, kept, kept_of, head_of, bare, Typed, Stands, found}
use Rattle.instr.specs.Decode.{done, got, exponent_at, lanes_at, sixteen_at, immediates_at, body_of, opcode_number, decode_at}
use Rattle.instr.specs.declared.Instr.{Instr}
use Rattle.instr.proofs.Places.{first_of, others-of, byte-here, byte-back, block_back, lane-back, lanes-back, number-back, item_back}

module _ (s : List ℕ) where
  module _ (i : Instr) (t : Typed i) (at p : ℕ) (h : Head) (bs rest : List ℕ) (e : drop p s ≡ bs ++ rest) where
    -- the last field ends where the bytes end
    ends : (k : Immediates) (q : ℕ) → q ≡ p + length bs → done at q (kept k h i) ≡ done at (p + length bs) (kept k h i)
    ends k q f = ap (λ (x : ℕ). done at x (kept k h i)) f

    alone : (xs ys : List ℕ) → bs ≡ xs ++ ys → ys ≡ [] → p + length xs ≡ p + length bs
    alone xs ys f g = omega (arith, ap length f, length-append xs ys, ap length g)

    sixteen-here : (xs ys : List ℕ) → bs ≡ xs ++ ys → xs ≡ i.bytes → drop p s ≡ i.bytes ++ (ys ++ rest)
    sixteen-here xs ys f g = first_of s p bs xs ys rest e f ∙ ap (λ (l : List ℕ). l ++ (ys ++ rest)) g

    sixteen-end : (xs ys : List ℕ) → bs ≡ xs ++ ys → xs ≡ i.bytes → ys ≡ [] → p + 16 ≡ p + length bs
    sixteen-end xs ys f g n = omega (arith, t.sixteen, ap length f, length-append xs ys, ap length g, ap length n)

    module _ (m n : ℕ) where
      immediates-read : (k : Immediates) → InOrder Writes (immediate_fields k i) bs → AllowedIn k m n i
          → immediates_at k m n s at p h ≡ done at (p + length bs) (kept k h i)
      unfolding immediates_at immediate_fields AllowedIn exponent_at sixteen_at
      immediates-read nothing o a = ends nothing p (omega (arith, ap length o))
      immediates-read index o a =
          rw (item_back s false 32 i.index p o.0 (o.1 ++ rest) (omega arith) t.index (first_of s p bs o.0 o.1 rest e o.2) o.3)
          (ends index (p + length o.0) (alone o.0 o.1 o.2 o.4))
      immediates-read block_type o a =
          rw (block_back s p i.block (o.1 ++ rest) (byte-here s p i.block bs o.0 o.1 rest e o.2 o.3) a)
          (ends block_type (p + 1) (omega (arith, ap length o.2, length-append o.0 o.1, ap length o.3, ap length o.4)))
      immediates-read word o a =
          rw (item_back s true 32 i.word p o.0 (o.1 ++ rest) (omega arith) t.word (first_of s p bs o.0 o.1 rest e o.2) o.3)
          (ends word (p + length o.0) (alone o.0 o.1 o.2 o.4))
      immediates-read long o a =
          rw (item_back s true 64 i.long p o.0 (o.1 ++ rest) (omega arith) t.long (first_of s p bs o.0 o.1 rest e o.2) o.3)
          (ends long (p + length o.0) (alone o.0 o.1 o.2 o.4))
      immediates-read memory o a =
          let u = o.4 in
          let d = others-of s p bs o.0 o.1 rest e o.2 in
          rw (
            item_back s false 32 i.align p o.0 (o.1 ++ rest) (omega arith) t.align (first_of s p bs o.0 o.1 rest e o.2) o.3,
            le-leb (2 ^ i.align) m a,
            item_back s false 32 i.offset (p + length o.0) u.0 (u.1 ++ rest) (omega arith) t.offset
                (first_of s (p + length o.0) o.1 u.0 u.1 rest d u.2) u.3,
          )
          (ends memory (p + length o.0 + length u.0)
          (omega (arith, ap length o.2, length-append o.0 o.1, ap length u.2, length-append u.0 u.1, ap length u.4)))
      immediates-read memory_lane o a =
          let u = o.4 in
          let w = u.4 in
          let d = others-of s p bs o.0 o.1 rest e o.2 in
          let d' = others-of s (p + length o.0) o.1 u.0 u.1 rest d u.2 in
          rw (
            item_back s false 32 i.align p o.0 (o.1 ++ rest) (omega arith) t.align (first_of s p bs o.0 o.1 rest e o.2) o.3,
            le-leb (2 ^ i.align) m a.0,
            item_back s false 32 i.offset (p + length o.0) u.0 (u.1 ++ rest) (omega arith) t.offset
                (first_of s (p + length o.0) o.1 u.0 u.1 rest d u.2) u.3,
            lane-back s (p + length o.0 + length u.0) i.lane (w.1 ++ rest)
                (byte-here s (p + length o.0 + length u.0) i.lane u.1 w.0 w.1 rest d' w.2 w.3) n a.1,
          )
          (ends memory_lane (p + length o.0 + length u.0 + 1)
          (omega (
            arith,
            ap length o.2,
            length-append o.0 o.1,
            ap length u.2,
            length-append u.0 u.1,
            ap length w.2,
            length-append w.0 w.1,
            ap length w.3,
            ap length w.4,
          )))
      immediates-read lane_index o a =
          rw (lane-back s p i.lane (o.1 ++ rest) (byte-here s p i.lane bs o.0 o.1 rest e o.2 o.3) n a)
          (ends lane_index (p + 1) (omega (arith, ap length o.2, length-append o.0 o.1, ap length o.3, ap length o.4)))
      immediates-read sixteen_bytes o a =
          let d = sixteen-here o.0 o.1 o.2 o.3 in
          let k : p + 16 ≤ length s = omega (arith, length-drop p s, ap length d, length-append i.bytes (o.1 ++ rest), t.sixteen) in
          rw (le-leb (p + 16) (length s) k, d, take_at i.bytes (o.1 ++ rest) 16 t.sixteen)
          (ends sixteen_bytes (p + 16) (sixteen-end o.0 o.1 o.2 o.3 o.4))
      immediates-read sixteen_lanes o a =
          let d = sixteen-here o.0 o.1 o.2 o.3 in
          let b : lanes_at 16 s p ≡ got 0 (p + 16) = rw t.sixteen at (lanes-back s i.bytes p (o.1 ++ rest) d a) in
          rw (b, d, take_at i.bytes (o.1 ++ rest) 16 t.sixteen)
          (ends sixteen_lanes (p + 16) (sixteen-end o.0 o.1 o.2 o.3 o.4))

    body_reads : (r : Row) → InOrder Writes (fields_of r i) bs → Allowed r i → body_of r s at p h ≡ done at (p + length bs) (kept_of r h i)
    unfolding body_of fields_of Allowed kept_of
    body_reads (carried c) o a = immediates-read (moved_by (carried c)) (lanes_of (carried c)) (immediates c) o a
    body_reads float o a = absurd a
    body_reads unassigned o a = absurd a

  module _ (ver : ℕ) (i : Instr) (t : Typed i) (at : ℕ) (bs rest : List ℕ) (e : drop at s ≡ bs ++ rest) (a : Allowed (row_in ver i) i) (o : InOrder Writes (layout ver i) bs) where
    abbrev Answers : Type 0
    Answers = decode_at ver s at ≡ found (length bs) (bare ver i)

    close : (q : ℕ) (h : Head) → q ≡ at + length bs → head_of i ≡ h → decode_at ver s at ≡ done at q (kept_of (row_in ver i) h i) → Answers
    close q h f g d =
        let l : q - at ≡ length bs = omega arith in
        d ∙ ap₂ (λ (n : ℕ) (x : Head). found n (kept_of (row_in ver i) x i)) l (sym g)

    -- after the first byte
    opens : (xs ys : List ℕ) → bs ≡ xs ++ ys → xs ≡ i.first ∷ [] → (b : Bool) → eqb i.first PREFIX ≡ b
        → InOrder Writes (cond b (u32 i.number ∷ []) [] ++ fields_of (row_in ver i) i) ys → Answers
    unfolding decode_at opcode_number
    opens xs ys f g true q o' =
        let d : drop (at + 1) s ≡ ys ++ rest = rw (ap length g) at (others-of s at bs xs ys rest e f) in
        let d' = others-of s (at + 1) ys o'.0 o'.1 rest d o'.2 in
        close (at + 1 + length o'.0 + length o'.1) (head i.first i.number)
        (omega (arith, ap length f, length-append xs ys, ap length g, ap length o'.2, length-append o'.0 o'.1)) (rw q)
        (rw (
          byte-back s at i.first (ys ++ rest) (byte-here s at i.first bs xs ys rest e f g),
          q,
          number-back s false 32 i.number (at + 1) o'.0 (o'.1 ++ rest) (omega arith) t.number (first_of s (at + 1) ys o'.0 o'.1 rest d o'.2) o'.3,
        )
        (rw q at (body_reads i t at (at + 1 + length o'.0) (head i.first i.number) o'.1 rest d' (row_in ver i) o'.4 a)))
    opens xs ys f g false q o' =
        let d : drop (at + 1) s ≡ ys ++ rest = rw (ap length g) at (others-of s at bs xs ys rest e f) in
        close (at + 1 + length ys) (head i.first 0)
        (omega (arith, ap length f, length-append xs ys, ap length g)) (rw q)
        (rw (byte-back s at i.first (ys ++ rest) (byte-here s at i.first bs xs ys rest e f g), q, add-zero (at + 1))
        (rw q at (body_reads i t at (at + 1) (head i.first 0) ys rest d (row_in ver i) o' a)))

    -- an instruction's fields are decoded, with the immediates that it lacks as zero
    pub fields-decode : Answers
    unfolding layout
    fields-decode = opens o.0 o.1 o.2 o.3 (eqb i.first PREFIX) refl o.4

pub stands-decodes : (ver : ℕ) (s : List ℕ) (at : ℕ) (i : Instr) (n : ℕ) → Stands ver s at i n → decode_at ver s at ≡ found n i
stands-decodes ver s at i n t =
    fields-decode s ver i t.typed at t.bytes t.rest t.here t.allowed t.fields ∙ ap₂ found t.long t.lacking
