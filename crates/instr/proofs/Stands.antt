-- EXACTLY: decoding answers an instruction where its fields stand, and nowhere else.
use Prim.Native.Nat.{ℕ, zero, suc, ◌-◌, ◌<◌, ◌≤◌, ◌^◌}
use mathlib.Core.Bool.{Bool, true, false, cond}
use mathlib.Core.List.{List, [], ◌∷◌, ◌++◌}
use mathlib.Core.Logic.{◌↔◌}
use mathlib.Core.Path.{◌≡◌, refl, sym, ap, ap₂, subst, ◌∙◌}
use native.Mathlib.Nat.{add-zero}
use native.Mathlib.Omega.{arith}
use lib.Dec.{eqb}
use lib.ListN.{length, replicate, take, drop}
use lib.Seq.{take_at}
use Rattle.card.specs.Card.{DONE}
use Rattle.leb128.specs.Bytes.{bytes}
use Rattle.leb128.specs.Number.{number_of, number_at}
use Rattle.opcode.specs.Table.{Row, carried, float, unassigned, PREFIX, row_at}
use Rattle.opcode.specs.Immediate.{Immediates, nothing, index, block_type, word, long, memory, memory_lane, lane_index, sixteen_bytes, sixteen_lanes, immediates, moved_by, lanes_of}
use Rattle.instr.specs.Layout.{Field, u32, s32, s64, raw, Writes, InOrder, opcode_fields, immediate_fields, fields_of, row_in, layout, Below, AllowedIn, Allowed, Head, head, zeros, made, kept, kept_of, head_of, Typed, Stands, found}
use Rattle.instr.specs.Decode.{done, and_then, byte_at, lane_at, block_at, exponent_at, lanes_at, sixteen_at, item_of, number_item, immediates_at, body_of, opcode_number, decode_at}
use Rattle.instr.specs.declared.Instr.{Instr}
use Rattle.instr.specs.declared.Decoded.{Decoded}
use Rattle.instr.proofs.Decodes.{stands-decodes}
use Rattle.instr.proofs.Fields.{in-order-append}
use Rattle.instr.proofs.Finds.{Here, here-none, here-join, here-next, Good, then-got, NumIs, num-got, item-got, ByteIs, byte-got, LaneIs, lane-got, BlockIs, block-got, ExponentIs, exponent-got, LanesAre, lanes-got, SixteenAre, sixteen-got, part_bytes}

below-zeros : (k : ℕ) → Below 256 (replicate k 0)
below-zeros zero = tt
below-zeros (suc k) = (omega arith, below-zeros k)

zeros-bytes : (length zeros ≡ 16) × Below 256 zeros
zeros-bytes = (refl, below-zeros 16)

module _ (s : List ℕ) (b : bytes s) where
  -- the immediates were found from p on, in the instruction of d
  record Read (at p : ℕ) (h : Head) (A : Instr → Type 0) (K : Instr → Instr) (F : Instr → List Field) (d : Decoded) : Type 0 where
    last : ℕ
    len : d.len ≡ last - at
    place : d.place ≡ 0
    first : d.instr.first ≡ h.first
    number : d.instr.number ≡ h.number
    typed : h.first < 2 ^ 8 → h.number < 2 ^ 32 → Typed d.instr
    allowed : A d.instr
    lacking : K d.instr ≡ d.instr
    here : Here s p last (InOrder Writes (F d.instr))

  module _ (at p : ℕ) (h : Head) (m n : ℕ) where
    abbrev ReadIn : Immediates → Decoded → Type 0
    ReadIn k d = Read at p h (AllowedIn k m n) (kept k h) (immediate_fields k) d

    read : (k : Immediates) (q x w v a o l t : ℕ) (bs : List ℕ)
        → (x < 2 ^ 32) × (w < 2 ^ 32) × (v < 2 ^ 64) × (a < 2 ^ 32) × (o < 2 ^ 32) × (l < 2 ^ 8) × (t < 2 ^ 8) → (length bs ≡ 16) × Below 256 bs
        → AllowedIn k m n (made h x w v a o l t bs) → kept k h (made h x w v a o l t bs) ≡ made h x w v a o l t bs
        → Here s p q (InOrder Writes (immediate_fields k (made h x w v a o l t bs))) → Good s (ReadIn k) (done at q (made h x w v a o l t bs))
    read k q x w v a o l t bs u e c f g = (
      omega arith,
      λ z. record {
        last = q;
        len = refl;
        place = refl;
        first = refl;
        number = refl;
        typed = λ b n. record {
          first = b;
          number = n;
          index = u.0;
          word = u.1;
          long = u.2;
          align = u.3;
          offset = u.4;
          lane = u.5;
          block = u.6;
          sixteen = e.0;
          bytes = e.1;
        };
        allowed = c;
        lacking = f;
        here = g;
      },
    )

    immediates-got : (k : Immediates) → Good s (ReadIn k) (immediates_at k m n s at p h)
    unfolding immediates_at immediate_fields AllowedIn NumIs ExponentIs LaneIs BlockIs ByteIs LanesAre SixteenAre
    immediates-got nothing = read nothing p 0 0 0 0 0 0 0 zeros (omega arith) zeros-bytes tt refl (here-none s p)
    immediates-got index =
        then-got s (NumIs s b false 32 p) (ReadIn index) (number_item false 32 s p) _ (item-got s b false 32 p (omega arith))
        (λ v q a. read index q v 0 0 0 0 0 0 zeros (omega (arith, a.0)) zeros-bytes tt refl (here-next s p q q (u32 v) [] a.3 (here-none s q)))
    immediates-got block_type =
        then-got s (BlockIs s b p) (ReadIn block_type) (block_at s p) _ (block-got s b p)
        (λ v q a. read block_type q 0 0 0 0 0 0 v zeros (omega (arith, a.1.1)) zeros-bytes a.0 refl (here-next s p q q (raw (v ∷ [])) [] a.1.3 (here-none s q)))
    immediates-got word =
        then-got s (NumIs s b true 32 p) (ReadIn word) (number_item true 32 s p) _ (item-got s b true 32 p (omega arith))
        (λ v q a. read word q 0 v 0 0 0 0 0 zeros (omega (arith, a.0)) zeros-bytes tt refl (here-next s p q q (s32 v) [] a.3 (here-none s q)))
    immediates-got long =
        then-got s (NumIs s b true 64 p) (ReadIn long) (number_item true 64 s p) _ (item-got s b true 64 p (omega arith))
        (λ v q a. read long q 0 0 v 0 0 0 0 zeros (omega (arith, a.0)) zeros-bytes tt refl (here-next s p q q (s64 v) [] a.3 (here-none s q)))
    immediates-got memory =
        then-got s (ExponentIs s b m p) (ReadIn memory) (exponent_at m s p) _ (exponent-got s b m p)
        (λ v q a. then-got s (NumIs s b false 32 q) (ReadIn memory) (number_item false 32 s q) _ (item-got s b false 32 q (omega arith))
        (λ o r c. read memory r 0 0 0 v o 0 0 zeros (omega (arith, a.1.0, c.0)) zeros-bytes a.0 refl
        (here-next s p q r (u32 v) (u32 o ∷ []) a.1.3 (here-next s q r r (u32 o) [] c.3 (here-none s r)))))
    immediates-got memory_lane =
        then-got s (ExponentIs s b m p) (ReadIn memory_lane) (exponent_at m s p) _ (exponent-got s b m p)
        (λ v q a. then-got s (NumIs s b false 32 q) (ReadIn memory_lane) (number_item false 32 s q) _ (item-got s b false 32 q (omega arith))
        (λ o r c. then-got s (LaneIs s b n r) (ReadIn memory_lane) (lane_at n s r) _ (lane-got s b n r)
        (λ l t d. read memory_lane t 0 0 0 v o l 0 zeros (omega (arith, a.1.0, c.0, d.1.1)) zeros-bytes (a.0, d.0) refl
        (here-next s p q t (u32 v) (u32 o ∷ raw (l ∷ []) ∷ []) a.1.3
        (here-next s q r t (u32 o) (raw (l ∷ []) ∷ []) c.3 (here-next s r t t (raw (l ∷ [])) [] d.1.3 (here-none s t)))))))
    immediates-got lane_index =
        then-got s (LaneIs s b n p) (ReadIn lane_index) (lane_at n s p) _ (lane-got s b n p)
        (λ l q a. read lane_index q 0 0 0 0 0 l 0 zeros (omega (arith, a.1.1)) zeros-bytes a.0 refl (here-next s p q q (raw (l ∷ [])) [] a.1.3 (here-none s q)))
    immediates-got sixteen_bytes =
        then-got s (SixteenAre s b p) (ReadIn sixteen_bytes) (sixteen_at s p) _ (sixteen-got s b p)
        (λ v q a. read sixteen_bytes q 0 0 0 0 0 0 0 (take 16 (drop p s)) (omega arith) ((ap length (sym a.4.0) ∙ a.4.1, part_bytes s b 16 p)) tt refl
        (here-next s p q q (raw (take 16 (drop p s))) [] (a.0, a.1, a.2, a.3, a.4.0) (here-none s q)))
    immediates-got sixteen_lanes =
        then-got s (LanesAre s b 16 p) (ReadIn sixteen_lanes) (lanes_at 16 s p) _ (lanes-got s b 16 p)
        (λ v q a.
        let t : take 16 (drop p s) ≡ a.0 = ap (take 16) a.2 ∙ take_at a.0 a.1 16 a.4.0 in
        read sixteen_lanes q 0 0 0 0 0 0 0 (take 16 (drop p s)) (omega arith) ((ap length t ∙ a.4.0, part_bytes s b 16 p)) (rw t a.4.1) refl
        (here-next s p q q (raw (take 16 (drop p s))) [] (a.0, a.1, a.2, a.3, sym t) (here-none s q)))

  body-got : (at p : ℕ) (h : Head) → at ≤ length s → (r : Row) → Good s (Read at p h (Allowed r) (kept_of r h) (fields_of r)) (body_of r s at p h)
  unfolding body_of Allowed kept_of fields_of
  body-got at p h l (carried c) = immediates-got at p h (moved_by (carried c)) (lanes_of (carried c)) (immediates c)
  body-got at p h l float = (l, λ z. absurd (omega arith))
  body-got at p h l unassigned = (l, λ z. absurd (omega arith))

  module _ (ver : ℕ) where
    -- the instruction at a place
    abbrev Whole : ℕ → Decoded → Type 0
    Whole at d = (d.place ≡ 0) × Stands ver s at d.instr d.len

    module _ (at p : ℕ) (r : Row) (h : Head) (d : Decoded) (w : Read at p h (Allowed r) (kept_of r h) (fields_of r) d) where
      -- op: the opcode's fields; its bytes stand from at to p
      whole : (op : List Field) → h.first < 2 ^ 8 → h.number < 2 ^ 32 → Here s at p (InOrder Writes op) → row_in ver d.instr ≡ r → head_of d.instr ≡ h
          → opcode_fields d.instr.first d.instr.number ≡ op → Whole at d
      unfolding layout
      whole op l n o e k f =
          let j =
          here-join s at p w.last (InOrder Writes op) (InOrder Writes (fields_of r d.instr)) (InOrder Writes (op ++ fields_of r d.instr))
          (λ xs ys a c. in-order-append Writes op (fields_of r d.instr) xs ys a c) o w.here in
          let lay : layout ver d.instr ≡ op ++ fields_of r d.instr = ap₂ (λ (x : List Field) (y : Row). x ++ fields_of y d.instr) f e in (
            w.place,
            record {
              typed = w.typed l n;
              allowed = subst (λ (x : Row). Allowed x d.instr) (sym e) w.allowed;
              lacking = ap₂ (λ (x : Row) (y : Head). kept_of x y d.instr) e k ∙ w.lacking;
              bytes = j.0;
              rest = j.1;
              here = j.2;
              long = omega (arith, j.3, w.len);
              fields = subst (λ (fs : List Field). InOrder Writes fs j.0) (sym lay) j.4;
            },
          )

    -- what an opcode's numbers fix
    abbrev HeadIs : Instr → Head → List Field → Type 0
    HeadIs i h op = (row_in ver i ≡ row_at ver h.first h.number) × (head_of i ≡ h) × (opcode_fields i.first i.number ≡ op)

    head-vector : (i : Instr) (v n : ℕ) → i.first ≡ v → i.number ≡ n → eqb v PREFIX ≡ true → HeadIs i (head v n) (raw (v ∷ []) ∷ u32 n ∷ [])
    head-vector i v n e f g =
        let g' : eqb i.first PREFIX ≡ true = ap (λ (x : ℕ). eqb x PREFIX) e ∙ g in
        (ap₂ (row_at ver) e f, rw g' (ap₂ head e f), rw g' (ap₂ (λ (x y : ℕ). raw (x ∷ []) ∷ u32 y ∷ []) e f))

    head_plain : (i : Instr) (v : ℕ) → i.first ≡ v → i.number ≡ 0 → eqb v PREFIX ≡ false → HeadIs i (head v 0) (raw (v ∷ []) ∷ [])
    head_plain i v e f g =
        let g' : eqb i.first PREFIX ≡ false = ap (λ (x : ℕ). eqb x PREFIX) e ∙ g in
        (ap₂ (row_at ver) e f, rw g' (ap (λ (x : ℕ). head x 0) e), rw g' (ap (λ (x : ℕ). raw (x ∷ []) ∷ []) e))

    after-vector : (at p q v n : ℕ) → eqb v PREFIX ≡ true → ByteIs s b at v p → NumIs s b false 32 p n q → Good s (Whole at) (body_of (row_at ver v n) s at q (head v n))
    unfolding ByteIs NumIs
    after-vector at p q v n e a c =
        let d = body_of (row_at ver v n) s at q (head v n) in
        let g = body-got at q (head v n) (omega (arith, a.0)) (row_at ver v n) in (
          g.0,
          λ z.
              let r = g.1 z in
              let t = head-vector d.instr v n r.first r.number e in
              whole at q (row_at ver v n) (head v n) d r (raw (v ∷ []) ∷ u32 n ∷ []) a.1 c.0
              (here-next s at p q (raw (v ∷ [])) (u32 n ∷ []) a.3 (here-next s p q q (u32 n) [] c.3 (here-none s q)))
              t.0 t.1 t.2,
        )

    after-plain : (at p v : ℕ) → eqb v PREFIX ≡ false → ByteIs s b at v p → Good s (Whole at) (body_of (row_at ver v 0) s at p (head v 0))
    unfolding ByteIs
    after-plain at p v e a =
        let d = body_of (row_at ver v 0) s at p (head v 0) in
        let g = body-got at p (head v 0) (omega (arith, a.0)) (row_at ver v 0) in (
          g.0,
          λ z.
              let r = g.1 z in
              let t = head_plain d.instr v r.first r.number e in
              whole at p (row_at ver v 0) (head v 0) d r (raw (v ∷ []) ∷ []) a.1 (omega arith)
              (here-next s at p p (raw (v ∷ [])) [] a.3 (here-none s p))
              t.0 t.1 t.2,
        )

    after_first : (at p v : ℕ) (t : Bool) → eqb v PREFIX ≡ t → ByteIs s b at v p
        → Good s (Whole at) (and_then (item_of s p (cond t (number_at false 32 s p) (number_of 0 0))) (λ n q. body_of (row_at ver v n) s at q (head v n)))
    after_first at p v true e a =
        then-got s (NumIs s b false 32 p) (Whole at) (item_of s p (number_at false 32 s p)) _ (num-got s b false 32 p (omega arith))
        (λ n q c. after-vector at p q v n e a c)
    after_first at p v false e a = rw (add-zero p) (after-plain at p v e a)

    pub decode-got : (at : ℕ) → Good s (Whole at) (decode_at ver s at)
    unfolding decode_at opcode_number
    decode-got at =
        then-got s (ByteIs s b at) (Whole at) (byte_at s at) _ (byte-got s b at)
        (λ v p a. after_first at p v (eqb v PREFIX) refl a)

    pub decode-exact : (at : ℕ) (i : Instr) (n : ℕ) → (decode_at ver s at ≡ found n i) ↔ Stands ver s at i n
    decode-exact at i n = ((λ e. ((subst (Good s (Whole at)) e (decode-got at)).1 refl).1), stands-decodes ver s at i n)

    -- code 0 says all of it
    pub decoded-stands : (at : ℕ) → (decode_at ver s at).code ≡ DONE → Stands ver s at (decode_at ver s at).instr (decode_at ver s at).len
    decoded-stands at z = ((decode-got at).1 z).1

    -- a place lies in the file, or is its length
    pub decoded-place : (at : ℕ) → (decode_at ver s at).place ≤ length s
    decoded-place at = (decode-got at).0

-- one instruction stands at a place at most
pub stands-once : (ver : ℕ) (s : List ℕ) (at : ℕ) (i j : Instr) (n m : ℕ) → Stands ver s at i n → Stands ver s at j m → (i ≡ j) × (n ≡ m)
stands-once ver s at i j n m a b =
    let e : found n i ≡ found m j = sym (stands-decodes ver s at i n a) ∙ stands-decodes ver s at j m b in
    (ap (λ (d : Decoded). d.instr) e, ap (λ (d : Decoded). d.len) e)
