-- The documents' lists are exactly the rows of which the tables say so, and 178 are carried.
use mathlib.Core.Path.{◌≡◌, refl, sym, ap, subst, ◌∙◌}
use mathlib.Core.Bool.{Bool, true, false}
use mathlib.Core.List.Memᴰ
use mathlib.Core.List.{List, [], ◌∷◌, map, Memᴰ}
use mathlib.Core.Logic.{◌⊎◌, inl, inr, ⊎_elim, ◌↔◌}
use Prim.Native.Nat.{ℕ, zero, suc, ◌+◌, ◌≤◌, ◌<◌}
use native.Mathlib.Nat.{eq-or-lt_of_le}
use native.Mathlib.Omega.{arith}
use lib.Dec.{T, eqb, eqb→eq}
use lib.ListN.{length}
use borrow.Author.Tests.{eq-eqb}
use Rattle.opcode.specs.Kind.{i32, i64, v128, kind_byte, kind_name}
use Rattle.opcode.specs.Table.{Row, carried, float, unassigned, vectors, vector_at, latest, plain_at}
use Rattle.opcode.specs.Immediate.{Immediates, nothing, index, block_type, word, long, memory, memory_lane, lane_index, sixteen_bytes, sixteen_lanes}
use Rattle.opcode.specs.Number.{class_number, class_of}
use Rattle.opcode.specs.Lists.{up_from, ◌to◌, unassigneds, floats, is_float, is_unassigned, is_carried, keep, those, plains_of_one, plains_of_two}
use Rattle.opcode.specs.Lists.{With, plains_with, vectors_with, is_of, lane_indices, kind_bytes}
use Rattle.opcode.proofs.Classes.{class-carried}
use Rattle.opcode.proofs.Every.{below-or-past}
use Rattle.opcode.proofs.Rows.{vector-beyond}

pub floats-are : those vector_at is_float (0 to 255) ≡ floats
unfolding vector_at vectors
floats-are = refl

pub unassigneds-are : those vector_at is_unassigned (0 to 255) ≡ unassigneds
unfolding vector_at vectors
unassigneds-are = refl

pub count-carried : length (those vector_at is_carried (0 to 255)) ≡ 178
unfolding vector_at vectors
count-carried = refl

pub count-floats : length floats ≡ 58
count-floats = refl

pub count-unassigned : length unassigneds ≡ 20
count-unassigned = refl

pub plains-of-one : those (plain_at 1) is_carried (0 to 255) ≡ plains_of_one
unfolding plain_at
plains-of-one = refl

pub plains-of-two : those (plain_at 2) is_carried (0 to 255) ≡ plains_of_two
unfolding plain_at
plains-of-two = refl

abbrev is_with : Immediates → Row → Bool
is_with i r = eqb (class_of r) (class_number i)

plains-with : (i : Immediates) → those (plain_at latest) (is_with i) (0 to 255) ≡ plains_with i
unfolding plain_at
plains-with nothing = refl
plains-with index = refl
plains-with block_type = refl
plains-with word = refl
plains-with long = refl
plains-with memory = refl
plains-with memory_lane = refl
plains-with lane_index = refl
plains-with sixteen_bytes = refl
plains-with sixteen_lanes = refl

vectors-with : (i : Immediates) → those vector_at (is_with i) (0 to 255) ≡ vectors_with i
unfolding vector_at vectors
vectors-with nothing = refl
vectors-with index = refl
vectors-with block_type = refl
vectors-with word = refl
vectors-with long = refl
vectors-with memory = refl
vectors-with memory_lane = refl
vectors-with lane_index = refl
vectors-with sixteen_bytes = refl
vectors-with sixteen_lanes = refl

pub lane-indices-are : map (λ l. (l.0, those vector_at (is_of l.0) (0 to 255))) lane_indices ≡ lane_indices
unfolding vector_at vectors
lane-indices-are = refl

pub kind-bytes : map (λ k. (kind_byte k, kind_name k)) (i32 ∷ i64 ∷ v128 ∷ []) ≡ kind_bytes
kind-bytes = refl

-- ---- the same of one number

kept : (b : Bool) (m : ℕ) (ns : List ℕ) {n : ℕ} → Memᴰ n (keep b m ns) → ((n ≡ m) × T b) ⊎ Memᴰ n ns
kept true m ns h = ⊎_elim (λ e. inl (e, tt)) inr (Memᴰ.cases_cons h)
kept false m ns h = inr h

keeps : (b : Bool) (m : ℕ) (ns : List ℕ) {n : ℕ} → n ≡ m → T b → Memᴰ n (keep b m ns)
keeps true m ns e t = Memᴰ.head e
keeps false m ns e t = absurd t

later : (b : Bool) (m : ℕ) (ns : List ℕ) {n : ℕ} → Memᴰ n ns → Memᴰ n (keep b m ns)
later true m ns h = Memᴰ.tail h
later false m ns h = h

module _ (table : ℕ → Row) (P : Row → Bool) where
  holds_of : (ns : List ℕ) {n : ℕ} → Memᴰ n (those table P ns) → T (P (table n))
  holds_of [] h = absurd (Memᴰ.not-nil h)
  holds_of (m ∷ ns) h =
      ⊎_elim (λ p. subst (λ (k : ℕ). T (P (table k))) (sym p.0) p.1) (holds_of ns) (kept (P (table m)) m (those table P ns) h)

  is-of : (a k : ℕ) {n : ℕ} → a ≤ n → n < a + k → T (P (table n)) → Memᴰ n (those table P (up_from a k))
  is-of a zero l h t = let none : ⊥ = omega arith in absurd none
  is-of a (suc k) l h t =
      ⊎_elim
      (λ e. keeps (P (table a)) a (those table P (up_from (suc a) k)) (sym e) (subst (λ (m : ℕ). T (P (table m))) (sym e) t))
      (λ m. later (P (table a)) a (those table P (up_from (suc a) k)) (is-of (suc a) k m (omega arith) t))
      (eq-or-lt_of_le l)

is-float : (r : Row) → T (is_float r) → r ≡ float
is-float (carried c) t = absurd t
is-float float t = refl
is-float unassigned t = absurd t

is-unassigned : (r : Row) → T (is_unassigned r) → r ≡ unassigned
is-unassigned (carried c) t = absurd t
is-unassigned float t = absurd t
is-unassigned unassigned t = refl

pub float_at : (n : ℕ) → (vector_at n ≡ float) ↔ Memᴰ n floats
float_at n = (there, back)
  where
    there : vector_at n ≡ float → Memᴰ n floats
    there e =
        subst (λ (ns : List ℕ). Memᴰ n ns) floats-are
        (⊎_elim
        (λ l. is-of vector_at is_float 0 256 (omega arith) (omega arith) (subst (λ (r : Row). T (is_float r)) (sym e) tt))
        (λ h. absurd (subst (λ (r : Row). T (is_float r)) (sym e ∙ vector-beyond n h) tt))
        (below-or-past 256 n))

    back : Memᴰ n floats → vector_at n ≡ float
    back m = is-float (vector_at n) (holds_of vector_at is_float (0 to 255) (subst (λ (ns : List ℕ). Memᴰ n ns) (sym floats-are) m))

pub unassigned-at : (n : ℕ) → n < 256 → (vector_at n ≡ unassigned) ↔ Memᴰ n unassigneds
unassigned-at n l = (there, back)
  where
    there : vector_at n ≡ unassigned → Memᴰ n unassigneds
    there e =
        subst (λ (ns : List ℕ). Memᴰ n ns) unassigneds-are
        (is-of vector_at is_unassigned 0 256 (omega arith) (omega arith) (subst (λ (r : Row). T (is_unassigned r)) (sym e) tt))

    back : Memᴰ n unassigneds → vector_at n ≡ unassigned
    back m = is-unassigned (vector_at n) (holds_of vector_at is_unassigned (0 to 255) (subst (λ (ns : List ℕ). Memᴰ n ns) (sym unassigneds-are) m))

class-of : (i : Immediates) (r : Row) → With i r → T (is_with i r)
class-of i r p = subst T (sym (eq-eqb (class_of r) (class_number i) (ap class_of p.1 ∙ ap class_number p.2))) tt

module _ (table : ℕ → Row) (i : Immediates) (ns : List ℕ) (are : those table (is_with i) (0 to 255) ≡ ns) (n : ℕ) (l : n < 256) where
  with_at : With i (table n) ↔ Memᴰ n ns
  with_at = (there, back)
    where
      there : With i (table n) → Memᴰ n ns
      there p = subst (λ (ms : List ℕ). Memᴰ n ms) are (is-of table (is_with i) 0 256 (omega arith) (omega arith) (class-of i (table n) p))

      back : Memᴰ n ns → With i (table n)
      back m =
          class-carried (table n) i
          (eqb→eq (class_of (table n)) (class_number i) (holds_of table (is_with i) (0 to 255) (subst (λ (ms : List ℕ). Memᴰ n ms) (sym are) m)))

-- and so in every version, since what a version carries the latest carries (Versions, row-latest)
pub plain-with-at : (i : Immediates) (b : ℕ) → b < 256 → With i (plain_at latest b) ↔ Memᴰ b (plains_with i)
plain-with-at i = with_at (plain_at latest) i (plains_with i) (plains-with i)

pub vector-with-at : (i : Immediates) (n : ℕ) → n < 256 → With i (vector_at n) ↔ Memᴰ n (vectors_with i)
vector-with-at i = with_at vector_at i (vectors_with i) (vectors-with i)
