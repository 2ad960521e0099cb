-- REFUSALS, EXACTLY: decoding refuses an instruction with the code and the place that the card names, and nothing else; at every place of a file
-- either an instruction stands or one refusal is named.
use Prim.Native.Nat.{ℕ, zero, suc, ◌+◌, ◌<◌, ◌≤◌, ◌^◌}
use mathlib.Core.Bool.{Bool, true, false, cond}
use mathlib.Core.List.{List, [], ◌∷◌, ◌++◌}
use mathlib.Core.Logic.{◌⊎◌, inl, inr, ◌↔◌}
use mathlib.Core.Path.{◌≡◌, refl, sym, ap, ap₂, subst, ◌∙◌}
use native.Mathlib.Nat.{add-zero}
use native.Mathlib.Omega.{arith}
use lib.Dec.{ltb, leb, eqb}
use lib.ListN.{length, get_or, drop, replicate}
use lib.Seq.{drop-cons}
use borrow.Author.Tests.{ltb-true, ltb-false, leb-true, leb-false, eqb-true, eqb-false}
use Rattle.std.specs.Prelude.{Result, Ok, Err}
use Rattle.card.specs.Card.{DONE, SHORT, OPCODE, FLOAT}
use Rattle.leb128.specs.Bits.{integer}
use Rattle.leb128.specs.Bytes.{bytes}
use Rattle.leb128.specs.Found.{Says}
use Rattle.leb128.specs.Grammar.{Written}
use Rattle.leb128.specs.Number.{number_of, number_at}
use Rattle.leb128.specs.declared.reading.Number.{Number}
use Rattle.leb128.specs.declared.reading.NoNumber.{NoNumber}
use Rattle.leb128.specs.declared.reading.NoNumber.TheVariants.{Short, Wrong as Malformed}
use Rattle.leb128.proofs.Arith.{split, either}
use Rattle.leb128.proofs.Exact.{says}
use Rattle.opcode.specs.BlockType.{is_block_type}
use Rattle.opcode.specs.Table.{Row, Code, carried, float, unassigned, PREFIX, row_at}
use Rattle.opcode.specs.Immediate.{Immediates, nothing, index, block_type, word, long, memory, memory_lane, lane_index, sixteen_bytes, sixteen_lanes, immediates, moved_by, lanes_of}
use Rattle.instr.specs.Layout.{u32, Writes, InOrder, immediate_fields, fields_of, row_in, layout, Below, AllowedIn, Allowed, Head, head, Typed, Stands, refusal}
use Rattle.instr.specs.Decode.{Item, got, no, and_then, and_read, item_of, number_item, byte_at, lane_at, block_at, exponent_at, lanes_at, sixteen_at, immediates_at, body_of, opcode_number, decode_at}
use Rattle.instr.specs.Refuses.{number, byte, ItemAt, a_number, a_byte, cut_number, no_byte, bad_number, Part, any, block, lane, exponent, form, Permits, Wrong, cut, no_block_type, no_number, large_index, large_exponent, Opcode, one_byte, prefixed, parts, parts_of, Reading, first, after_prefix, immediate, Refuses, item, not_assigned, a_float, Decodes, whole, refused}
use Rattle.instr.specs.declared.Instr.{Instr}
use Rattle.instr.specs.declared.Decoded.{Decoded}
use Rattle.instr.proofs.Parts.{passes-wrong, wrong-once, byte-same, u32-same, wrong-coded, Falls, further, falls-here, falls-once, Through, none_left, passing, through-falls}
use Rattle.instr.proofs.Places.{past, first_of, others-of, byte-here}
use Rattle.instr.proofs.Decodes.{stands-decodes}
use Rattle.instr.proofs.Stands.{decode-got, decoded-place}

-- ---- one refusal at most

module _ (ver : ℕ) (s : List ℕ) (at : ℕ) where
  opcode-once : {b n q b' n' q' : ℕ} → Opcode s at b n q → Opcode s at b' n' q' → (b ≡ b') × (n ≡ n') × (q ≡ q')
  opcode-once (one_byte a x) (one_byte b y) = let t = byte-same s at a b in (t.0, refl, t.1)
  opcode-once (one_byte a x) (prefixed b m) = absurd (x (byte-same s at a b).0)
  opcode-once (prefixed a m) (one_byte b y) = absurd (y (sym (byte-same s at a b).0))
  opcode-once (prefixed {p = p} a m) (prefixed {n = n'} {q = q'} b m') =
      let u = u32-same s p m (subst (λ (x : ℕ). ItemAt s x (number false 32) n' q') (sym (byte-same s at a b).1) m') in
      (refl, u.0, u.1)

  -- what is wrong after the opcode
  data Body : Row → ℕ → ℕ → ℕ → Type 0 where
    of-items : {c : Code} {q code place : ℕ} → Falls s (parts_of c) q code place → Body (carried c) q code place
    of-float : {q : ℕ} → Body float q FLOAT at
    of_none : {q : ℕ} → Body unassigned q OPCODE at

  -- and in it, or after it
  data Stage : ℕ → ℕ → Type 0 where
    at_first : {c l : ℕ} → Wrong s at (any byte) c l → Stage c l
    at-number : {p c l : ℕ} → ItemAt s at byte PREFIX p → Wrong s p (any (number false 32)) c l → Stage c l
    at_body : {b n q c l : ℕ} → Opcode s at b n q → Body (row_at ver b n) q c l → Stage c l

  stage : {c l : ℕ} → Refuses ver s at c l → Stage c l
  stage (item first w) = at_first w
  stage (item (after_prefix h) w) = at-number h w
  stage {c} {l} (item {p = p} {i = i} (immediate {p = q} o e n) w) =
      at_body o (subst (λ (r : Row). Body r q c l) (sym e) (of-items (record { place = p; part = i; next = n; wrong = w })))
  stage (not_assigned {p = q} o e) = at_body o (subst (λ (r : Row). Body r q OPCODE at) (sym e) of_none)
  stage (a_float {p = q} o e) = at_body o (subst (λ (r : Row). Body r q FLOAT at) (sym e) of-float)

  first-opcode : {b n q c l : ℕ} → Wrong s at (any byte) c l → Opcode s at b n q → ⊥
  first-opcode w (one_byte {b = b} a x) = passes-wrong s at (record { value = b; holds = a; allowed = tt }) w
  first-opcode w (prefixed a m) = passes-wrong s at (record { value = PREFIX; holds = a; allowed = tt }) w

  number-opcode : {p b n q c l : ℕ} → ItemAt s at byte PREFIX p → Wrong s p (any (number false 32)) c l → Opcode s at b n q → ⊥
  number-opcode h w (one_byte a x) = x (byte-same s at a h).0
  number-opcode {c = c} {l} h w (prefixed {n = n} {p = p} a m) =
      passes-wrong s p (record { value = n; holds = m; allowed = tt })
      (subst (λ (x : ℕ). Wrong s x (any (number false 32)) c l) (byte-same s at h a).1 w)

  body-once : {r : Row} {q c l c' l' : ℕ} → Body r q c l → Body r q c' l' → (c ≡ c') × (l ≡ l')
  body-once (of-items a) (of-items b) = falls-once s a b
  body-once of-float of-float = (refl, refl)
  body-once of_none of_none = (refl, refl)

  body-falls : {c : Code} {q code place : ℕ} → Body (carried c) q code place → Falls s (parts_of c) q code place
  body-falls (of-items a) = a

  -- of one opcode
  body-of : {b n q b' n' q' c l : ℕ} → Opcode s at b n q → Opcode s at b' n' q' → Body (row_at ver b' n') q' c l → Body (row_at ver b n) q c l
  body-of {b} {n} {q} {b'} {n'} {q'} {c} {l} o o' f =
      let t = opcode-once o' o in
      subst (λ (x : ℕ). Body (row_at ver x n) q c l) t.0
      (subst (λ (x : ℕ). Body (row_at ver b' x) q c l) t.1
      (subst (λ (x : ℕ). Body (row_at ver b' n') x c l) t.2 f))

  stage-once : {c l c' l' : ℕ} → Stage c l → Stage c' l' → (c ≡ c') × (l ≡ l')
  stage-once (at_first a) (at_first b) = wrong-once s at a b
  stage-once (at_first a) (at-number h b) = absurd (passes-wrong s at (record { value = PREFIX; holds = h; allowed = tt }) a)
  stage-once (at_first a) (at_body o b) = absurd (first-opcode a o)
  stage-once (at-number h a) (at_first b) = absurd (passes-wrong s at (record { value = PREFIX; holds = h; allowed = tt }) b)
  stage-once {c' = c'} {l'} (at-number {p = p} h a) (at-number g b) =
      wrong-once s p a (subst (λ (x : ℕ). Wrong s x (any (number false 32)) c' l') (byte-same s at g h).1 b)
  stage-once (at-number h a) (at_body o b) = absurd (number-opcode h a o)
  stage-once (at_body o a) (at_first b) = absurd (first-opcode b o)
  stage-once (at_body o a) (at-number h b) = absurd (number-opcode h b o)
  stage-once (at_body o f) (at_body o' g) = body-once f (body-of o o' g)

  pub refuses-once : {c l c' l' : ℕ} → Refuses ver s at c l → Refuses ver s at c' l' → (c ≡ c') × (l ≡ l')
  refuses-once a b = stage-once (stage a) (stage b)

  pub refuses-coded : {c l : ℕ} → Refuses ver s at c l → c ≡ DONE → ⊥
  refuses-coded (item {p = p} r w) z = omega (arith, wrong-coded s p w, z)
  refuses-coded (not_assigned o e) z = omega (arith, z)
  refuses-coded (a_float o e) z = omega (arith, z)

-- ---- where an instruction stands nothing is refused

module _ (s : List ℕ) where
  module _ (p : ℕ) (bs xs ys rest : List ℕ) (e : drop p s ≡ bs ++ rest) (f : bs ≡ xs ++ ys) where
    number-held : (sign : Bool) (N v : ℕ) → Written sign N xs (integer sign N v) → ItemAt s p (number sign N) v (p + length xs)
    number-held sign N v w = a_number (record { bytes = xs; rest = ys ++ rest; here = first_of s p bs xs ys rest e f; long = refl; writes = w })

    byte-held : (b : ℕ) → xs ≡ b ∷ [] → ItemAt s p byte b (p + length xs)
    byte-held b g = subst (ItemAt s p byte b) (ap (λ (l : List ℕ). p + length l) (sym g)) (a_byte (byte-here s p b bs xs ys rest e f g))

  bytes-through : (xs : List ℕ) (p : ℕ) (rest : List ℕ) → drop p s ≡ xs ++ rest → Through s (replicate (length xs) (any byte)) p (p + length xs)
  bytes-through [] p rest e = subst (Through s [] p) (sym (add-zero p)) none_left
  bytes-through (x ∷ xs) p rest e =
      let n : p + 1 + length xs ≡ p + suc (length xs) = omega arith in
      subst (Through s (replicate (suc (length xs)) (any byte)) p) n
      (passing (record { value = x; holds = a_byte e; allowed = tt }) (bytes-through xs (p + 1) rest (past s p (x ∷ []) (xs ++ rest) e)))

  lanes-through : (xs : List ℕ) (p : ℕ) (rest : List ℕ) → drop p s ≡ xs ++ rest → Below 32 xs → Through s (replicate (length xs) (lane 32)) p (p + length xs)
  lanes-through [] p rest e a = subst (Through s [] p) (sym (add-zero p)) none_left
  lanes-through (x ∷ xs) p rest e a =
      let n : p + 1 + length xs ≡ p + suc (length xs) = omega arith in
      subst (Through s (replicate (suc (length xs)) (lane 32)) p) n
      (passing (record { value = x; holds = a_byte e; allowed = a.0 })
      (lanes-through xs (p + 1) rest (past s p (x ∷ []) (xs ++ rest) e) a.1))

  abbrev Passed : List Part → ℕ → Type 0
  Passed is p = (q : ℕ) × Through s is p q

  -- the fields of an instruction are its items
  module _ (i : Instr) (t : Typed i) (p : ℕ) (bs rest : List ℕ) (e : drop p s ≡ bs ++ rest) where
    abbrev sixteen : (xs ys : List ℕ) → bs ≡ xs ++ ys → xs ≡ i.bytes → drop p s ≡ i.bytes ++ (ys ++ rest)
    sixteen xs ys f g = first_of s p bs xs ys rest e f ∙ ap (λ (l : List ℕ). l ++ (ys ++ rest)) g

    immediates-pass : (k : Immediates) (m n : ℕ) → InOrder Writes (immediate_fields k i) bs → AllowedIn k m n i → Passed (parts k m n) p
    unfolding immediate_fields AllowedIn
    immediates-pass nothing m n o a = (p, none_left)
    immediates-pass index m n o a =
        (_, passing (record { value = i.index; holds = number-held p bs o.0 o.1 rest e o.2 false 32 i.index o.3; allowed = tt }) none_left)
    immediates-pass block_type m n o a =
        (_, passing (record { value = i.block; holds = byte-held p bs o.0 o.1 rest e o.2 i.block o.3; allowed = a }) none_left)
    immediates-pass word m n o a =
        (_, passing (record { value = i.word; holds = number-held p bs o.0 o.1 rest e o.2 true 32 i.word o.3; allowed = tt }) none_left)
    immediates-pass long m n o a =
        (_, passing (record { value = i.long; holds = number-held p bs o.0 o.1 rest e o.2 true 64 i.long o.3; allowed = tt }) none_left)
    immediates-pass memory m n o a =
        let u = o.4 in
        let d = others-of s p bs o.0 o.1 rest e o.2 in (
          _,
          passing (record { value = i.align; holds = number-held p bs o.0 o.1 rest e o.2 false 32 i.align o.3; allowed = a })
              (passing (record {
                value = i.offset;
                holds = number-held _ o.1 u.0 u.1 rest d u.2 false 32 i.offset
                    u.3;
                allowed = tt;
              }) none_left),
        )
    immediates-pass memory_lane m n o a =
        let u = o.4 in
        let w = u.4 in
        let d = others-of s p bs o.0 o.1 rest e o.2 in
        let d' = others-of s (p + length o.0) o.1 u.0 u.1 rest d u.2 in (
          _,
          passing (record { value = i.align; holds = number-held p bs o.0 o.1 rest e o.2 false 32 i.align o.3; allowed = a.0 })
              (passing (record { value = i.offset; holds = number-held _ o.1 u.0 u.1 rest d u.2 false 32 i.offset u.3; allowed = tt })
              (passing (record { value = i.lane; holds = byte-held _ u.1 w.0 w.1 rest d' w.2 i.lane w.3; allowed = a.1 }) none_left)),
        )
    immediates-pass lane_index m n o a =
        (_, passing (record { value = i.lane; holds = byte-held p bs o.0 o.1 rest e o.2 i.lane o.3; allowed = a }) none_left)
    immediates-pass sixteen_bytes m n o a = (
      _,
      subst (λ (k : ℕ). Through s (replicate k (any byte)) p (p + length i.bytes)) t.sixteen
          (bytes-through i.bytes p (o.1 ++ rest) (sixteen o.0 o.1 o.2 o.3)),
    )
    immediates-pass sixteen_lanes m n o a = (
      _,
      subst (λ (k : ℕ). Through s (replicate k (lane 32)) p (p + length i.bytes)) t.sixteen
          (lanes-through i.bytes p (o.1 ++ rest) (sixteen o.0 o.1 o.2 o.3) a),
    )

  module _ (ver at : ℕ) where
    -- all of an instruction's items pass
    record Whole : Type 0 where
      b : ℕ
      n : ℕ
      q : ℕ
      code : Code
      opcode-there : Opcode s at b n q
      row : row_at ver b n ≡ carried code
      through : Passed (parts_of code) q

    whole-stage : {c l : ℕ} → Whole → Stage ver s at c l → ⊥
    whole-stage w (at_first a) = first-opcode ver s at a w.opcode-there
    whole-stage w (at-number h a) = number-opcode ver s at h a w.opcode-there
    whole-stage {c} {l} w (at_body o f) =
        through-falls s w.through.1 (body-falls ver s at
        (subst (λ (r : Row). Body ver s at r w.q c l) w.row (body-of ver s at w.opcode-there o f)))

    module _ (i : Instr) (t : Typed i) (b n q : ℕ) (o : Opcode s at b n q) (bs rest : List ℕ) (e : drop q s ≡ bs ++ rest) where
      row-whole : (r : Row) → row_at ver b n ≡ r → Allowed r i → InOrder Writes (fields_of r i) bs → Whole
      unfolding Allowed fields_of
      row-whole (carried c) g a f =
          record {
            b = b;
            n = n;
            q = q;
            code = c;
            opcode-there = o;
            row = g;
            through = immediates-pass i t q bs rest e (immediates c) (moved_by (carried c)) (lanes_of (carried c)) f a;
          }
      row-whole float g a f = absurd a
      row-whole unassigned g a f = absurd a

    module _ (i : Instr) (t : Typed i) (bs rest : List ℕ) (e : drop at s ≡ bs ++ rest) (a : Allowed (row_in ver i) i) where
      opens : (xs ys : List ℕ) → bs ≡ xs ++ ys → xs ≡ i.first ∷ [] → (v : Bool) → eqb i.first PREFIX ≡ v
          → InOrder Writes (cond v (u32 i.number ∷ []) [] ++ fields_of (row_in ver i) i) ys → Whole
      opens xs ys f g true v o =
          let is = eqb-true i.first PREFIX v in
          let d = others-of s at bs xs ys rest e f in
          let d' = others-of s (at + length xs) ys o.0 o.1 rest d o.2 in
          let at_byte = subst (λ (x : ℕ). ItemAt s at byte x (at + length xs)) is (byte-held at bs xs ys rest e f i.first g) in
          let at-number = number-held (at + length xs) ys o.0 o.1 rest d o.2 false 32 i.number o.3 in
          row-whole i t i.first i.number (at + length xs + length o.0)
          (subst (λ (x : ℕ). Opcode s at x i.number (at + length xs + length o.0)) (sym is) (prefixed at_byte at-number))
          o.1 rest d' (row_in ver i) refl a o.4
      opens xs ys f g false v o =
          let d = others-of s at bs xs ys rest e f in
          row-whole i t i.first 0 (at + length xs) (one_byte (byte-held at bs xs ys rest e f i.first g) (eqb-false i.first PREFIX v))
          ys rest d (row_in ver i) (rw v) a o

    pub stands-refuses : {i : Instr} {n c l : ℕ} → Stands ver s at i n → Refuses ver s at c l → ⊥
    unfolding layout
    stands-refuses {i} t r =
        let o = t.fields in
        whole-stage (opens i t.typed t.bytes t.rest t.here t.allowed o.0 o.1 o.2 o.3 (eqb i.first PREFIX) refl o.4)
        (stage ver s at r)

-- ---- what decoding answers

module _ (s : List ℕ) (b : bytes s) where
  -- what is read passes, and what is not is wrong
  abbrev Judged : Part → ℕ → Item → Type 0
  Judged i p (got v q) = ItemAt s p (form i) v q × Permits i v
  Judged i p (no c l) = Wrong s p i c l

  number-from : (sign : Bool) (N p : ℕ) (r : Result Number NoNumber) → Says sign N s p r → Judged (any (number sign N)) p (item_of s p r)
  number-from sign N p (Ok m) f = (a_number f.stands, tt)
  number-from sign N p (Err Short) f = cut (cut_number f)
  number-from sign N p (Err Malformed) f = no_number (bad_number f)

  leb-judged : (sign : Bool) (N p : ℕ) → 0 < N → Judged (any (number sign N)) p (item_of s p (number_at sign N s p))
  leb-judged sign N p h = number-from sign N p (number_at sign N s p) (says sign N s p b h)

  number-judged : (sign : Bool) (N p : ℕ) → 0 < N → Judged (any (number sign N)) p (number_item sign N s p)
  unfolding number_item
  number-judged sign N p h = leb-judged sign N p h

  byte-stands : (p : ℕ) → p < length s → ItemAt s p byte (get_or s p 0) (p + 1)
  byte-stands p l = a_byte (drop-cons s p 0 l)

  byte-judged : (p : ℕ) → Judged (any byte) p (byte_at s p)
  unfolding byte_at
  byte-judged p =
      split (Judged (any byte) p) (ltb p (length s))
      (λ e. (byte-stands p (ltb-true p (length s) e), tt))
      (λ e. cut (no_byte (ltb-false p (length s) e)))

  -- one that is judged beside its form
  again : (i : Part) {p c l : ℕ} → Wrong s p (any (form i)) c l → Wrong s p i c l
  again i (cut a) = cut a
  again i (no_number a) = no_number a

  read-judged : (i : Part) (p : ℕ) (g : Item) (f : ℕ → ℕ → Item) → Judged (any (form i)) p g
      → ((v q : ℕ) → ItemAt s p (form i) v q → Judged i p (f v q)) → Judged i p (and_read g f)
  read-judged i p (got v q) f j k = k v q j.0
  read-judged i p (no c l) f j k = again i j

  lane-judged : (n p : ℕ) → Judged (lane n) p (lane_at n s p)
  unfolding lane_at
  lane-judged n p =
      read-judged (lane n) p (byte_at s p) _ (byte-judged p)
      (λ v q h. split (Judged (lane n) p) (ltb v n) (λ e. (h, ltb-true v n e)) (λ e. large_index h (ltb-false v n e)))

  block-judged : (p : ℕ) → Judged block p (block_at s p)
  unfolding block_at
  block-judged p =
      read-judged block p (byte_at s p) _ (byte-judged p)
      (λ v q h. split (Judged block p) (is_block_type v) (λ e. (h, e)) (λ e. no_block_type h e))

  exponent-judged : (m p : ℕ) → Judged (exponent m) p (exponent_at m s p)
  unfolding exponent_at
  exponent-judged m p =
      read-judged (exponent m) p (number_item false 32 s p) _ (number-judged false 32 p (omega arith))
      (λ v q h. split (Judged (exponent m) p) (leb (2 ^ v) m) (λ e. (h, leb-true (2 ^ v) m e)) (λ e. large_exponent h (leb-false (2 ^ v) m e)))

  -- an answer that is whole, or the first item that does not pass
  data Ends (is : List Part) (p : ℕ) : Decoded → Type 0 where
    goes-well : {d : Decoded} → d.code ≡ DONE → Ends is p d
    goes-wrong : {c l : ℕ} → Falls s is p c l → Ends is p (refusal c l)

  onward : (i : Part) (is : List Part) (p v q : ℕ) (d : Decoded) → ItemAt s p (form i) v q × Permits i v → Ends is q d → Ends (i ∷ is) p d
  onward i is p v q d j (goes-well z) = goes-well z
  onward i is p v q d j (goes-wrong f) = goes-wrong (further s (record { value = v; holds = j.0; allowed = j.1 }) f)

  then-ends : (i : Part) (is : List Part) (p : ℕ) (g : Item) (f : ℕ → ℕ → Decoded) → Judged i p g → ((v q : ℕ) → Ends is q (f v q))
      → Ends (i ∷ is) p (and_then g f)
  then-ends i is p (got v q) f j k = onward i is p v q (f v q) j (k v q)
  then-ends i is p (no c l) f j k = goes-wrong (falls-here s j)

  lanes-more : (k p : ℕ) (f : ℕ → ℕ → Decoded) (g : Item) → Judged (lane 32) p g → ((q : ℕ) → Ends (replicate k (lane 32)) q (and_then (lanes_at k s q) f))
      → Ends (replicate (suc k) (lane 32)) p (and_then (and_read g (λ v q. lanes_at k s q)) f)
  lanes-more k p f (got v q) j rest = onward (lane 32) (replicate k (lane 32)) p v q (and_then (lanes_at k s q) f) j (rest q)
  lanes-more k p f (no c l) j rest = goes-wrong (falls-here s j)

  lanes_end : (k p : ℕ) (f : ℕ → ℕ → Decoded) → ((v q : ℕ) → (f v q).code ≡ DONE) → Ends (replicate k (lane 32)) p (and_then (lanes_at k s p) f)
  unfolding lanes_at
  lanes_end zero p f z = goes-well (z 0 p)
  lanes_end (suc k) p f z = lanes-more k p f (lane_at 32 s p) (lane-judged 32 p) (λ q. lanes_end k q f z)

  -- one of k bytes is missing
  bytes_cut : (k p : ℕ) → 0 < k → length s < p + k → Falls s (replicate k (any byte)) p SHORT (length s)
  bytes_cut zero p o h = absurd (omega arith)
  bytes_cut (suc k) p o h =
      either (length s) p
      (λ l. falls-here s (cut (no_byte l)))
      (λ l. further s (record { value = get_or s p 0; holds = byte-stands p l; allowed = tt }) (bytes_cut k (p + 1) (omega arith) (omega arith)))

  sixteen-ends : (p : ℕ) (f : ℕ → ℕ → Decoded) → ((v q : ℕ) → (f v q).code ≡ DONE) → Ends (replicate 16 (any byte)) p (and_then (sixteen_at s p) f)
  unfolding sixteen_at
  sixteen-ends p f z =
      split (λ (g : Item). Ends (replicate 16 (any byte)) p (and_then g f)) (leb (p + 16) (length s))
      (λ e. goes-well (z 0 (p + 16)))
      (λ e. goes-wrong (bytes_cut 16 p (omega arith) (leb-false (p + 16) (length s) e)))

  immediates-end : (k : Immediates) (m n at p : ℕ) (h : Head) → Ends (parts k m n) p (immediates_at k m n s at p h)
  unfolding immediates_at
  immediates-end nothing m n at p h = goes-well refl
  immediates-end index m n at p h =
      then-ends (any (number false 32)) [] p (number_item false 32 s p) _ (number-judged false 32 p (omega arith)) (λ v q. goes-well refl)
  immediates-end block_type m n at p h = then-ends block [] p (block_at s p) _ (block-judged p) (λ v q. goes-well refl)
  immediates-end word m n at p h = then-ends (any (number true 32)) [] p (number_item true 32 s p) _ (number-judged true 32 p (omega arith)) (λ v q. goes-well refl)
  immediates-end long m n at p h = then-ends (any (number true 64)) [] p (number_item true 64 s p) _ (number-judged true 64 p (omega arith)) (λ v q. goes-well refl)
  immediates-end memory m n at p h =
      then-ends (exponent m) (any (number false 32) ∷ []) p (exponent_at m s p) _ (exponent-judged m p) (λ a q.
      then-ends (any (number false 32)) [] q (number_item false 32 s q) _ (number-judged false 32 q (omega arith)) (λ o r. goes-well refl))
  immediates-end memory_lane m n at p h =
      then-ends (exponent m) (any (number false 32) ∷ lane n ∷ []) p (exponent_at m s p) _ (exponent-judged m p) (λ a q.
      then-ends (any (number false 32)) (lane n ∷ []) q (number_item false 32 s q) _ (number-judged false 32 q (omega arith)) (λ o r.
      then-ends (lane n) [] r (lane_at n s r) _ (lane-judged n r) (λ l t. goes-well refl)))
  immediates-end lane_index m n at p h = then-ends (lane n) [] p (lane_at n s p) _ (lane-judged n p) (λ v q. goes-well refl)
  immediates-end sixteen_bytes m n at p h = sixteen-ends p _ (λ v q. refl)
  immediates-end sixteen_lanes m n at p h = lanes_end 16 p _ (λ v q. refl)

  module _ (ver at : ℕ) where
    data Ended : Decoded → Type 0 where
      ended-well : {d : Decoded} → d.code ≡ DONE → Ended d
      ended-wrong : {c l : ℕ} → Refuses ver s at c l → Ended (refusal c l)

    then-ended : (i : Part) (p : ℕ) (g : Item) (f : ℕ → ℕ → Decoded) → Judged i p g → Reading ver s at p i
        → ((v q : ℕ) → ItemAt s p (form i) v q → Ended (f v q)) → Ended (and_then g f)
    then-ended i p (got v q) f j r k = k v q j.0
    then-ended i p (no c l) f j r k = ended-wrong (item r j)

    items-ended : {v n q : ℕ} {c : Code} {d : Decoded} → Opcode s at v n q → row_at ver v n ≡ carried c → Ends (parts_of c) q d → Ended d
    items-ended o e (goes-well z) = ended-well z
    items-ended o e (goes-wrong f) = ended-wrong (item (immediate o e f.next) f.wrong)

    body_ended : (v n q : ℕ) → Opcode s at v n q → (r : Row) → row_at ver v n ≡ r → Ended (body_of r s at q (head v n))
    unfolding body_of
    body_ended v n q o (carried c) e = items-ended o e (immediates-end (immediates c) (moved_by (carried c)) (lanes_of (carried c)) at q (head v n))
    body_ended v n q o float e = ended-wrong (a_float o e)
    body_ended v n q o unassigned e = ended-wrong (not_assigned o e)

    after_first : (v p : ℕ) → ItemAt s at byte v p → (t : Bool) → eqb v PREFIX ≡ t
        → Ended (and_then (item_of s p (cond t (number_at false 32 s p) (number_of 0 0))) (λ n q. body_of (row_at ver v n) s at q (head v n)))
    after_first v p h true e =
        let is = eqb-true v PREFIX e in
        let first = subst (λ (x : ℕ). ItemAt s at byte x p) is h in
        then-ended (any (number false 32)) p (item_of s p (number_at false 32 s p)) _ (leb-judged false 32 p (omega arith)) (after_prefix first)
        (λ n q c. body_ended v n q (subst (λ (x : ℕ). Opcode s at x n q) (sym is) (prefixed first c)) (row_at ver v n) refl)
    after_first v p h false e =
        rw (add-zero p) (body_ended v 0 p (one_byte h (eqb-false v PREFIX e)) (row_at ver v 0) refl)

    decode-ended : Ended (decode_at ver s at)
    unfolding decode_at opcode_number
    decode-ended = then-ended (any byte) at (byte_at s at) _ (byte-judged at) first (λ v p h. after_first v p h (eqb v PREFIX) refl)

    answer-of : (d : Decoded) → decode_at ver s at ≡ d → Ended d → Decodes ver s at d
    answer-of d e (ended-well z) =
        let t = (decode-got s b ver at).1 (ap (λ (x : Decoded). x.code) e ∙ z) in
        subst (Decodes ver s at) (sym (stands-decodes ver s at _ _ t.1) ∙ e) (whole t.1)
    answer-of d e (ended-wrong r) = refused r

    -- the answer is one of the two
    pub decode-decodes : Decodes ver s at (decode_at ver s at)
    decode-decodes = answer-of (decode_at ver s at) refl decode-ended

    refuses-by : {d : Decoded} {c l : ℕ} → Decodes ver s at d → Refuses ver s at c l → d ≡ refusal c l
    refuses-by (whole t) r = absurd (stands-refuses s ver at t r)
    refuses-by (refused f) r = let e = refuses-once ver s at f r in ap₂ refusal e.0 e.1

    refused-by : {d : Decoded} → Decodes ver s at d → (d.code ≡ DONE → ⊥) → Refuses ver s at d.code d.place
    refused-by (whole t) z = absurd (z refl)
    refused-by (refused f) z = f

    -- a refusal is one of the card's
    pub decoded-refuses : ((decode_at ver s at).code ≡ DONE → ⊥) → Refuses ver s at (decode_at ver s at).code (decode_at ver s at).place
    decoded-refuses z = refused-by decode-decodes z

    -- EXACTLY
    pub refuses-exact : (c l : ℕ) → ((decode_at ver s at ≡ refusal c l) × (c ≡ DONE → ⊥)) ↔ Refuses ver s at c l
    refuses-exact c l = (to, λ r. (refuses-by decode-decodes r, refuses-coded ver s at r))
      where
        to : (decode_at ver s at ≡ refusal c l) × (c ≡ DONE → ⊥) → Refuses ver s at c l
        to e = refused-by (subst (Decodes ver s at) e.0 decode-decodes) e.1

    decodes-by : {d : Decoded} → Decodes ver s at d → decode_at ver s at ≡ d
    decodes-by (whole {i} {n} t) = stands-decodes ver s at i n t
    decodes-by (refused f) = refuses-by decode-decodes f

    pub decodes-exact : (d : Decoded) → (decode_at ver s at ≡ d) ↔ Decodes ver s at d
    decodes-exact d = ((λ e. subst (Decodes ver s at) e decode-decodes), decodes-by)

    -- a place lies in the file, or is its length
    pub refuses-place : {c l : ℕ} → Refuses ver s at c l → l ≤ length s
    refuses-place r = omega (arith, ap (λ (d : Decoded). d.place) (refuses-by decode-decodes r), decoded-place s b ver at)

    -- one of the two holds
    pub refuses-or-stands : ((c : ℕ) × (l : ℕ) × Refuses ver s at c l) ⊎ ((i : Instr) × (n : ℕ) × Stands ver s at i n)
    refuses-or-stands = by decode-decodes
      where
        by : {d : Decoded} → Decodes ver s at d → ((c : ℕ) × (l : ℕ) × Refuses ver s at c l) ⊎ ((i : Instr) × (n : ℕ) × Stands ver s at i n)
        by (whole {i} {n} t) = inr (i, n, t)
        by (refused {code} {place} f) = inl (code, place, f)
