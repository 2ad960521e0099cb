-- What is passed over is the instruction that stands there.
use Prim.Native.Nat.{ℕ, ◌+◌, ◌≤◌, ◌<◌}
use mathlib.Core.Path.{◌≡◌, refl, ap, ap₂, sym, ◌∙◌, subst}
use mathlib.Core.Bool.{Bool, true, false, cond}
use mathlib.Core.List.{List, [], ◌∷◌, ◌++◌}
use native.Mathlib.Nat.{add-zero}
use native.Mathlib.Omega.{arith}
use lib.Dec.{eqb}
use lib.ListN.{length, get_or, drop, length-append}
use lib.Seq.{get_or-drop}
use borrow.Author.Tests.{eq-eqb, ne_eqb}
use Rattle.leb128.specs.Bytes.{bytes}
use Rattle.std.specs.Prelude.{Result, Ok, Err}
use Rattle.leb128.specs.Number.{number_of, number_at}
use Rattle.leb128.specs.declared.reading.Number.{Number}
use Rattle.leb128.specs.declared.reading.NoNumber.{NoNumber}
use Rattle.leb128.proofs.Bounds.{found-32}
use Rattle.opcode.specs.Table.{Code, Row, carried, float, unassigned, PREFIX, latest, vector_at, plain_at, row_at}
use Rattle.opcode.specs.Immediate.{Immediates, nothing, index, block_type, word, long, memory, memory_lane, lane_index, sixteen_bytes, sixteen_lanes, immediates}
use Rattle.opcode.specs.Number.{id_of, row_of, class_number, class_of}
use Rattle.opcode.proofs.Id.{row-of-id}
use Rattle.opcode.proofs.Rows.{row-beyond}
use Rattle.opcode.proofs.Classes.{class-carried}
use Rattle.opcode.proofs.Versions.{row-latest}
use Rattle.instr.specs.declared.Instr.{Instr}
use Rattle.instr.specs.Layout.{u32, Writes, InOrder, immediate_fields, fields_of, row_in, layout}
use Rattle.instr.specs.Decode.{opcode_number}
use Rattle.instr.proofs.Numbers.{same-number}
use Rattle.instr.proofs.Ranges.{stands-inside}
use Rattle.instr.proofs.Places.{first_of, others-of, byte-here, number-back}
use Rattle.rules.specs.Strip.{Reads}
use Rattle.closing.specs.Search.{past_fields, blank, past_row, passed, passed_by, passed_at, Named}
use Rattle.closing.proofs.Fields.{all-inside, fields-past, as-blank}

module _ (s : List ℕ) where
  -- ---- any bytes: it goes on, and not past the last

  pub row_inside : (r : Row) (p : ℕ) → p ≤ length s → (p ≤ past_row r s p) × (past_row r s p ≤ length s)
  row_inside (carried c) p l = all-inside s p l (immediate_fields (immediates c) blank)
  row_inside float p l = (l, omega arith)
  row_inside unassigned p l = (l, omega arith)

  module _ (b : bytes s) where
    opcode-inside : (p : ℕ) → p < length s → (t : Bool) (x : Result Number NoNumber) → cond t (number_at false 32 s (p + 1)) (number_of 0 0) ≡ x
        → (p < (passed_by (get_or s p 0) s (p + 1) x).next) × ((passed_by (get_or s p 0) s (p + 1) x).next ≤ length s)
    opcode-inside p l true (Ok m) e =
        let f = found-32 false s (p + 1) b m.value m.len e in
        let r = row_inside (row_at latest (get_or s p 0) m.value) (p + 1 + m.len) f.3 in (omega (arith, r.0), r.1)
    opcode-inside p l false (Ok m) e =
        let z : m.len ≡ 0 = (same-number (sym e)).1 in
        let r = row_inside (row_at latest (get_or s p 0) m.value) (p + 1 + m.len) (omega (arith, z)) in (omega (arith, r.0), r.1)
    opcode-inside p l t (Err _) e = (l, omega arith)

    pub onward : (p : ℕ) → p < length s → (p < (passed_at s p).next) × ((passed_at s p).next ≤ length s)
    unfolding passed_at opcode_number
    onward p l = opcode-inside p l (eqb (get_or s p 0) PREFIX) (opcode_number (get_or s p 0) s (p + 1)) refl

  -- ---- an instruction that stands there

  module _ {ver p n : ℕ} {i : Instr} {c : Code} (r : Reads ver s p i c n) where
    abbrev Here : Type 0
    Here = passed_at s p ≡ passed (carried c) (p + n)

    row_is : row_at latest i.first i.number ≡ carried c
    row_is = row-latest ver i.first i.number r.does

    -- the immediates end it
    ends : (q : ℕ) (bs : List ℕ) → drop q s ≡ bs ++ r.stands.rest → InOrder Writes (fields_of (row_in ver i) i) bs → q + length bs ≡ p + n
        → past_row (carried c) s q ≡ p + n
    unfolding fields_of
    ends q bs e o l =
        sym (as-blank s (immediates c) i r.stands.typed.sixteen q)
        ∙ fields-past s q bs r.stands.rest (omega (arith, l, stands-inside r.stands)) e (immediate_fields (immediates c) i)
        (subst (λ (x : Row). InOrder Writes (fields_of x i) bs) r.does o)
        ∙ l

    passes-by : (b v : ℕ) (k : ℕ) → b ≡ i.first → row_at latest b v ≡ carried c → past_row (carried c) s (p + 1 + k) ≡ p + n → opcode_number b s (p + 1) ≡ number_of v k
        → passed_by b s (p + 1) (opcode_number b s (p + 1)) ≡ passed (carried c) (p + n)
    passes-by b v k e f g h = ap (passed_by b s (p + 1)) h ∙ ap₂ passed f (ap (λ (x : Row). past_row x s (p + 1 + k)) f ∙ g)

    opens : (xs ys : List ℕ) → r.stands.bytes ≡ xs ++ ys → xs ≡ i.first ∷ [] → (t : Bool) → eqb i.first PREFIX ≡ t
        → InOrder Writes (cond t (u32 i.number ∷ []) [] ++ fields_of (row_in ver i) i) ys → Here
    unfolding passed_at opcode_number
    opens xs ys f g t q o =
        let here = byte-here s p i.first r.stands.bytes xs ys r.stands.rest r.stands.here f g in
        let first : get_or s p 0 ≡ i.first = ap (λ (k : ℕ). get_or s k 0) (sym (add-zero p)) ∙ sym (get_or-drop p s 0 0) ∙ ap (λ (l : List ℕ). get_or l 0 0) here in
        let d : drop (p + 1) s ≡ ys ++ r.stands.rest = rw (ap length g) at (others-of s p r.stands.bytes xs ys r.stands.rest r.stands.here f) in
        let far : p + 1 + length ys ≡ p + n = omega (arith, ap length f, length-append xs ys, ap length g, r.stands.long) in
        ap (λ (b : ℕ). passed_by b s (p + 1) (opcode_number b s (p + 1))) first ∙ by t q o d far
      where
        by : (t : Bool) → eqb i.first PREFIX ≡ t → InOrder Writes (cond t (u32 i.number ∷ []) [] ++ fields_of (row_in ver i) i) ys
            → drop (p + 1) s ≡ ys ++ r.stands.rest → p + 1 + length ys ≡ p + n
            → passed_by i.first s (p + 1) (opcode_number i.first s (p + 1)) ≡ passed (carried c) (p + n)
        by true q o d far =
            passes-by i.first i.number (length o.0) refl row_is
            (ends (p + 1 + length o.0) o.1 (others-of s (p + 1) ys o.0 o.1 r.stands.rest d o.2) o.4
            (omega (arith, ap length o.2, length-append o.0 o.1, far)))
            (ap (λ (t : Bool). cond t (number_at false 32 s (p + 1)) (number_of 0 0)) q
            ∙ number-back s false 32 i.number (p + 1) o.0 (o.1 ++ r.stands.rest) (omega arith) r.stands.typed.number
            (first_of s (p + 1) ys o.0 o.1 r.stands.rest d o.2) o.3)
        by false q o d far =
            passes-by i.first 0 0 refl
            (ap (λ (t : Bool). cond t (vector_at 0) (plain_at latest i.first)) q
            ∙ sym (ap (λ (t : Bool). cond t (vector_at i.number) (plain_at latest i.first)) q) ∙ row_is)
            (ap (past_row (carried c) s) (add-zero (p + 1)) ∙ ends (p + 1) ys d o far)
            (ap (λ (t : Bool). cond t (number_at false 32 s (p + 1)) (number_of 0 0)) q)

    pub passes : Here
    unfolding layout
    passes = let o = r.stands.fields in opens o.0 o.1 o.2 o.3 (eqb i.first PREFIX) refl o.4

  -- ---- an opcode that was read

  module _ (b : bytes s) (p : ℕ) (l : p < length s) where
    named_by : {id : ℕ} (v n : ℕ) → p + 1 + n ≤ length s → id ≡ id_of (get_or s p 0) v → opcode_number (get_or s p 0) s (p + 1) ≡ number_of v n → Named s p id (p + 1 + n)
    unfolding passed_at
    named_by {id} v n k e f =
        let row : row_at latest (get_or s p 0) v ≡ row_of id = sym (row-of-id (get_or s p 0) v (b p)) ∙ ap row_of (sym e) in
        record { inside = k; says = ap (passed_by (get_or s p 0) s (p + 1)) f ∙ ap (λ (x : Row). passed x (past_row x s (p + 1 + n))) row }

    pub named-byte : {id : ℕ} → (get_or s p 0 ≡ PREFIX → ⊥) → id ≡ id_of (get_or s p 0) 0 → Named s p id (p + 1)
    unfolding opcode_number
    named-byte {id} d e =
        subst (Named s p id) (add-zero (p + 1))
        (named_by 0 0 (omega arith) e (ap (λ (t : Bool). cond t (number_at false 32 s (p + 1)) (number_of 0 0)) (ne_eqb (get_or s p 0) PREFIX d)))

    module _ (d : get_or s p 0 ≡ PREFIX) where
      reads-number : opcode_number (get_or s p 0) s (p + 1) ≡ number_at false 32 s (p + 1)
      unfolding opcode_number
      reads-number = ap (λ (t : Bool). cond t (number_at false 32 s (p + 1)) (number_of 0 0)) (eq-eqb (get_or s p 0) PREFIX d)

      pub named-number : {id v n : ℕ} → number_at false 32 s (p + 1) ≡ number_of v n → id ≡ id_of (get_or s p 0) v → Named s p id (p + 1 + n)
      named-number {id} {v} {n} f e = named_by v n (found-32 false s (p + 1) b v n f).3 e (reads-number ∙ f)

      not_named : (x : Result Number NoNumber) → opcode_number (get_or s p 0) s (p + 1) ≡ x → passed_by (get_or s p 0) s (p + 1) x ≡ passed unassigned (length s) → Named s p 512 (p + 1)
      unfolding passed_at
      not_named x f g =
          let none : unassigned ≡ row_of 512 = sym (row-beyond 512 (omega arith)) in
          record { inside = omega arith; says = ap (passed_by (get_or s p 0) s (p + 1)) f ∙ g ∙ ap (λ (r : Row). passed r (past_row r s (p + 1))) none }

      pub named-none : (e : NoNumber) → number_at false 32 s (p + 1) ≡ Err e → Named s p 512 (p + 1)
      named-none e f = not_named (Err e) (reads-number ∙ f) refl

-- ---- by the class of the row

module _ (r : Row) (s : List ℕ) (p : ℕ) where
  pub past-class : (k : Immediates) → class_of r ≡ class_number k → past_row r s p ≡ past_fields s p (immediate_fields k blank)
  past-class k e =
      let t = class-carried r k e in
      ap (λ (x : Row). past_row x s p) t.1 ∙ ap (λ (j : Immediates). past_fields s p (immediate_fields j blank)) t.2

  past-none : (x : Row) → 10 ≤ class_of x → past_row x s p ≡ length s
  past-none (carried c) l = absurd (let z : ⊥ = omega (arith, l, class-few (immediates c)) in z)
    where
      class-few : (k : Immediates) → class_number k ≤ 9
      class-few nothing = omega arith
      class-few index = omega arith
      class-few block_type = omega arith
      class-few word = omega arith
      class-few long = omega arith
      class-few memory = omega arith
      class-few memory_lane = omega arith
      class-few lane_index = omega arith
      class-few sixteen_bytes = omega arith
      class-few sixteen_lanes = omega arith
  past-none float l = refl
  past-none unassigned l = refl

  pub past-other : 10 ≤ class_of r → past_row r s p ≡ length s
  past-other = past-none r
