-- A vector made of its lanes: its lanes are those, and every vector is made so.
use mathlib.Core.Path.{◌≡◌, refl, sym, ap, ap₂, ◌∙◌, subst}
use mathlib.Core.List.{List, ◌++◌}
use mathlib.Core.Logic.{◌⊎◌, inl, inr}
use Prim.Native.Nat.{ℕ, zero, suc, ◌+◌, ◌*◌, ◌/◌, ◌%◌, ◌^◌, ◌<◌}
use native.Mathlib.Nat.{mul_comm, mul_assoc, zero-mul, suc-mul, mul-suc, mul-zero, mod-lt}
use native.Mathlib.Nat.{mod-mod, zero-lt-suc, eq-or-lt_of_le, le_of_suc-le-suc, not-suc-le-zero, mul-le-mul_left}
use native.Mathlib.Omega.{arith}
use lib.Arith.{digits_div, digits_lt}
use lib.ListN.{length, length-append}
use lib.Pow.{pow_pos, pow-add}
use Rattle.operation.specs.Vector.{number, le, build, Sixteen}
use Rattle.operation.proofs.Laws.Number.{length-le, number_append, number-le, le-number, le_split, le-mod, field_of, field-low}

pub length-build : (k n : ℕ) (g : ℕ → ℕ) → length (build k n g) ≡ n * k
unfolding build
length-build k zero g = sym (zero-mul k)
length-build k (suc n) g = length-append (build k n g) (le k (g n)) ∙ ap₂ ◌+◌ (length-build k n g) (length-le k (g n)) ∙ sym (suc-mul n k)

-- lanes that agree make one vector
pub build-same : (k m : ℕ) (g h : ℕ → ℕ) → ((n : ℕ) → n < m → g n ≡ h n) → build k m g ≡ build k m h
unfolding build
build-same k zero g h f = refl
build-same k (suc m) g h f = ap₂ (λ (a : List ℕ) (x : ℕ). a ++ le k x) (build-same k m g h (λ n l. f n (omega arith))) (f m (omega arith))

-- what was put at lane n is there
above : (k m : ℕ) (g : ℕ → ℕ) → number (build k (suc m) g) ≡ g m % 2 ^ (8 * k) * 2 ^ (8 * k * m) + number (build k m g)
unfolding build
above k m g =
    number_append (build k m g) (le k (g m))
    ∙ ap₂ (λ (x j : ℕ). x * 2 ^ j + number (build k m g)) (number-le k (g m))
    (ap (λ (j : ℕ). 8 * j) (length-build k m g) ∙ omega (arith, mul_assoc 8 k m, mul_comm m k))

build-lt : (k m : ℕ) (g : ℕ → ℕ) → number (build k m g) < 2 ^ (8 * k * m)
unfolding build
build-lt k zero g = subst (λ (j : ℕ). 0 < 2 ^ j) (sym (mul-zero (8 * k))) (zero-lt-suc 0)
build-lt k (suc m) g =
    subst (λ (x : ℕ). x < 2 ^ (8 * k * suc m)) (sym (above k m g))
    (subst (λ (p : ℕ). g m % 2 ^ (8 * k) * 2 ^ (8 * k * m) + number (build k m g) < p) power (digits_lt (mod-lt (g m) (pow_pos (8 * k))) (build-lt k m g)))
  where
    power : 2 ^ (8 * k) * 2 ^ (8 * k * m) ≡ 2 ^ (8 * k * suc m)
    power = mul_comm (2 ^ (8 * k)) (2 ^ (8 * k * m)) ∙ sym (pow-add 2 (8 * k * m) (8 * k)) ∙ ap (λ (j : ℕ). 2 ^ j) (sym (mul-suc (8 * k) m))

field_step : (k m n : ℕ) (g : ℕ → ℕ) → (n < m → field_of (8 * k) (number (build k m g)) n ≡ g n % 2 ^ (8 * k)) → (n ≡ m) ⊎ (n < m)
    → field_of (8 * k) (number (build k (suc m) g)) n ≡ g n % 2 ^ (8 * k)
field_step k m n g f (inl e) =
    subst (λ (j : ℕ). field_of (8 * k) (number (build k (suc m) g)) j ≡ g j % 2 ^ (8 * k)) (sym e)
    (ap (λ (x : ℕ). x % 2 ^ (8 * k)) (ap (λ (x : ℕ). x / 2 ^ (8 * k * m)) (above k m g) ∙ digits_div (g m % 2 ^ (8 * k)) (build-lt k m g))
    ∙ mod-mod (g m) (2 ^ (8 * k)))
field_step k m n g f (inr l) =
    ap (λ (x : ℕ). field_of (8 * k) x n) (above k m g)
    ∙ field-low (8 * k) n (8 * k * m) (g m % 2 ^ (8 * k)) (number (build k m g)) (omega (arith, mul-suc (8 * k) n, mul-le-mul_left (8 * k) l)) ∙ f l

pub field-build : (k m n : ℕ) (g : ℕ → ℕ) → n < m → field_of (8 * k) (number (build k m g)) n ≡ g n % 2 ^ (8 * k)
field-build k zero n g h = absurd (not-suc-le-zero h)
field-build k (suc m) n g h = field_step k m n g (λ l. field-build k m n g l) (eq-or-lt_of_le (le_of_suc-le-suc h))

-- a number's bytes are those of its fields
pub build-fields : (k m x : ℕ) → build k m (field_of (8 * k) x) ≡ le (m * k) x
unfolding build
build-fields k zero x = ap (λ (j : ℕ). le j x) (sym (zero-mul k))
build-fields k (suc m) x =
    ap₂ (λ (a b : List ℕ). a ++ b) (build-fields k m x)
    (le-mod k (x / 2 ^ (8 * k * m)) ∙ ap (λ (j : ℕ). le k (x / 2 ^ j)) (omega (arith, mul_assoc 8 k m, mul_comm m k)))
    ∙ sym (le_split (m * k) k x) ∙ ap (λ (j : ℕ). le j x) (sym (suc-mul m k))

-- sixteen bytes are those of their m lanes
pub in-lanes : (k m : ℕ) (v : List ℕ) → m * k ≡ 16 → Sixteen v → v ≡ build k m (field_of (8 * k) (number v))
in-lanes k m v e s =
    sym (build-fields k m (number v) ∙ ap (λ (j : ℕ). le j (number v)) (e ∙ sym s.long) ∙ le-number v s.bytes)
