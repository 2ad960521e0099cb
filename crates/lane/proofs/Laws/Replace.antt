-- One lane put into a vector: the others stay.
use mathlib.Core.Path.{◌≡◌, refl, sym, ap, ap₂, ◌∙◌, subst}
use mathlib.Core.Bool.{Bool, true, false, cond}
use mathlib.Core.List.{List, ◌++◌}
use Prim.Native.Nat.{ℕ, zero, suc, ◌+◌, ◌*◌, ◌-◌, ◌/◌, ◌%◌, ◌^◌, ◌≤◌, ◌<◌}
use native.Mathlib.Nat.{mul_comm, mul_assoc, mul-add, mul-suc, add_comm, mod-lt, mul-le-mul_left}
use native.Mathlib.Omega.{arith}
use lib.Arith.{digits_div, digits_mod}
use lib.Dec.{eqb, ltb}
use borrow.Author.Tests.{eqb-true, eqb-false, ltb-true, ltb-false}
use lib.ListN.{length, take, drop, length-drop, take-append-drop}
use lib.Seq.{length-take-le, drop-drop}
use lib.Pow.{pow_pos, shr-shr}
use mir.Syntax.{Width, w8, w16, w32, w64, w128}
use mir.Val.{bits}
use Rattle.operation.specs.Vector.{number, le, build, vec, lane, Sixteen}
use Rattle.operation.proofs.Laws.Number.{Bytes, length-le, number_append, number-le, number_lt, bytes_take, bytes_drop, field_of, field-low, field-high, le-mod}
use Rattle.operation.proofs.Laws.Build.{in-lanes}
use Rattle.lane.specs.Inner.Put.{put, Wrote}
use Rattle.lane.proofs.Laws.Build.{room}

-- three parts: a below bit k·i, then k bits b, then c
abbrev whole : ℕ → ℕ → ℕ → ℕ → ℕ → ℕ
whole k i a b c = (c * 2 ^ k + b) * 2 ^ (k * i) + a

pub field-mid : (k i a b c : ℕ) → a < 2 ^ (k * i) → b < 2 ^ k → field_of k (whole k i a b c) i ≡ b
field-mid k i a b c ha hb = ap (λ (x : ℕ). x % 2 ^ k) (digits_div (c * 2 ^ k + b) ha) ∙ digits_mod c hb

field-above : (k i n a b c : ℕ) → a < 2 ^ (k * i) → b < 2 ^ k → i < n → field_of k (whole k i a b c) n ≡ field_of k c (n - suc i)
field-above k i n a b c ha hb l =
    ap (λ (m : ℕ). whole k i a b c / 2 ^ m % 2 ^ k) at
    ∙ ap (λ (x : ℕ). x % 2 ^ k) (sym (shr-shr (whole k i a b c) (k * i) (k + k * (n - suc i))) ∙ ap (λ (x : ℕ). x / 2 ^ (k + k * (n - suc i))) (digits_div (c * 2 ^ k + b) ha))
    ∙ field-high k (n - suc i) k c b hb
  where
    at : k * n ≡ k * i + (k + k * (n - suc i))
    at = ap (λ (m : ℕ). k * m) (omega arith) ∙ mul-add k i (suc (n - suc i)) ∙ ap (λ (m : ℕ). k * i + m) (mul-suc k (n - suc i) ∙ add_comm (k * (n - suc i)) k)

-- at any other lane it does not matter what b is
pub field-other : (k i n a b b' c : ℕ) → a < 2 ^ (k * i) → b < 2 ^ k → b' < 2 ^ k → (n ≡ i → ⊥) → field_of k (whole k i a b c) n ≡ field_of k (whole k i a b' c) n
field-other k i n a b b' c ha hb hb' ne = at (ltb n i) refl
  where
    below : n < i → k * n + k ≤ k * i
    below l = subst (λ (m : ℕ). m ≤ k * i) (mul-suc k n) (mul-le-mul_left k l)

    at : (t : Bool) → ltb n i ≡ t → field_of k (whole k i a b c) n ≡ field_of k (whole k i a b' c) n
    at true e = field-low k n (k * i) (c * 2 ^ k + b) a (below (ltb-true n i e)) ∙ sym (field-low k n (k * i) (c * 2 ^ k + b') a (below (ltb-true n i e)))
    at false e = field-above k i n a b c ha hb (omega (arith, ltb-false n i e)) ∙ sym (field-above k i n a b' c ha hb' (omega (arith, ltb-false n i e)))

-- ---- in bytes

-- v and v with x at lane i, in three parts
module _ (k i x : ℕ) (v : List ℕ) (h : i * k + k ≤ length v) where
  before : ℕ
  before = number (take (i * k) v)

  behind : ℕ
  behind = number (drop (i * k + k) v)

  bits-before : 8 * length (take (i * k) v) ≡ 8 * k * i
  bits-before = ap (λ (m : ℕ). 8 * m) (length-take-le (i * k) v (omega arith)) ∙ omega (arith, mul_assoc 8 k i, mul_comm i k)

  put-parts : number (put k v i x) ≡ whole (8 * k) i before (x % 2 ^ (8 * k)) behind
  unfolding put before behind
  put-parts =
      number_append (take (i * k) v) (le k x ++ drop (i * k + k) v)
      ∙ ap₂ (λ (n m : ℕ). n * 2 ^ m + number (take (i * k) v))
      (number_append (le k x) (drop (i * k + k) v) ∙ ap₂ (λ (m n : ℕ). behind * 2 ^ (8 * m) + n) (length-le k x) (number-le k x)) bits-before

  parts : number v ≡ whole (8 * k) i before (number (take k (drop (i * k) v))) behind
  unfolding before behind
  parts =
      ap number (sym (take-append-drop (i * k) v)) ∙ number_append (take (i * k) v) (drop (i * k) v)
      ∙ ap₂ (λ (n m : ℕ). n * 2 ^ m + number (take (i * k) v)) inner bits-before
    where
      inner : number (drop (i * k) v) ≡ behind * 2 ^ (8 * k) + number (take k (drop (i * k) v))
      inner =
          ap number (sym (take-append-drop k (drop (i * k) v))) ∙ number_append (take k (drop (i * k) v)) (drop k (drop (i * k) v))
          ∙ ap₂ (λ (l : List ℕ) (m : ℕ). number l * 2 ^ (8 * m) + number (take k (drop (i * k) v))) (drop-drop k (i * k) v)
          (length-take-le k (drop (i * k) v) (simp length-drop (omega arith)))

  -- lane i is x, the others are as they were
  field_put : (n : ℕ) → Bytes v → field_of (8 * k) (number (put k v i x)) n ≡ cond (eqb n i) (x % 2 ^ (8 * k)) (field_of (8 * k) (number v) n)
  unfolding before behind
  field_put n bytes = at (eqb n i) refl
    where
      small : before < 2 ^ (8 * k * i)
      small = subst (λ (m : ℕ). before < 2 ^ m) bits-before (number_lt (take (i * k) v) (bytes_take (i * k) v bytes))

      old : number (take k (drop (i * k) v)) < 2 ^ (8 * k)
      old =
          subst (λ (m : ℕ). number (take k (drop (i * k) v)) < 2 ^ (8 * m)) (length-take-le k (drop (i * k) v) (simp length-drop (omega arith)))
          (number_lt (take k (drop (i * k) v)) (bytes_take k (drop (i * k) v) (bytes_drop (i * k) v bytes)))

      new : x % 2 ^ (8 * k) < 2 ^ (8 * k)
      new = mod-lt x (pow_pos (8 * k))

      at : (t : Bool) → eqb n i ≡ t → field_of (8 * k) (number (put k v i x)) n ≡ cond t (x % 2 ^ (8 * k)) (field_of (8 * k) (number v) n)
      at true e =
          ap (λ (m : ℕ). field_of (8 * k) (number (put k v i x)) m) (eqb-true n i e) ∙ ap (λ (y : ℕ). field_of (8 * k) y i) put-parts
          ∙ field-mid (8 * k) i before (x % 2 ^ (8 * k)) behind small new
      at false e =
          ap (λ (y : ℕ). field_of (8 * k) y n) put-parts
          ∙ field-other (8 * k) i n before (x % 2 ^ (8 * k)) (number (take k (drop (i * k) v))) behind small new old (eqb-false n i e)
          ∙ ap (λ (y : ℕ). field_of (8 * k) y n) (sym parts)

-- a lane is its lowest k bytes
build-low : (k m : ℕ) (g h : ℕ → ℕ) → ((n : ℕ) → n < m → le k (g n) ≡ le k (h n)) → build k m g ≡ build k m h
unfolding build
build-low k zero g h e = refl
build-low k (suc m) g h e = ap₂ ◌++◌ (build-low k m g h (λ n l. e n (omega (arith, l)))) (e m (omega arith))

-- as a vector of m lanes
pub put-lanes : (k m i x : ℕ) (v : List ℕ) → m * k ≡ 16 → i * k + k ≤ 16 → Sixteen v → Sixteen (put k v i x)
    → put k v i x ≡ build k m (λ n. cond (eqb n i) x (field_of (8 * k) (number v) n))
put-lanes k m i x v e h s s' =
    in-lanes k m (put k v i x) e s'
    ∙ build-low k m (field_of (8 * k) (number (put k v i x))) (λ n. cond (eqb n i) x (field_of (8 * k) (number v) n))
    (λ n l. ap (le k) (field_put k i x v (subst (λ (j : ℕ). i * k + k ≤ j) (sym s.long) h) n s.bytes) ∙ low (eqb n i) (field_of (8 * k) (number v) n))
  where
    low : (t : Bool) (y : ℕ) → le k (cond t (x % 2 ^ (8 * k)) y) ≡ le k (cond t x y)
    low true y = le-mod k x
    low false y = refl

-- of the lanes of width w
pub wrote-lanes : (w : Width) (m i x : ℕ) (v v' : List ℕ) → m * bits w ≡ 128 → i < m → Sixteen v → Wrote w v i x v'
    → v' ≡ vec w (λ n. cond (eqb n i) x (lane w v n))
unfolding lane
wrote-lanes w8 m i x v v' e l s p = p.same ∙ put-lanes 1 16 i x v refl (room w8 m i e l) s (subst Sixteen p.same p.sixteen)
wrote-lanes w16 m i x v v' e l s p = p.same ∙ put-lanes 2 8 i x v refl (room w16 m i e l) s (subst Sixteen p.same p.sixteen)
wrote-lanes w32 m i x v v' e l s p = p.same ∙ put-lanes 4 4 i x v refl (room w32 m i e l) s (subst Sixteen p.same p.sixteen)
wrote-lanes w64 m i x v v' e l s p = p.same ∙ put-lanes 8 2 i x v refl (room w64 m i e l) s (subst Sixteen p.same p.sixteen)
wrote-lanes w128 m i x v v' e l s p = p.same ∙ put-lanes 16 1 i x v refl (room w128 m i e l) s (subst Sixteen p.same p.sixteen)
