-- Tests over all lanes, one lane after the other, and tallies of them.
use mathlib.Core.Path.{◌≡◌, refl, sym, ap, ap₂, ◌∙◌, subst}
use mathlib.Core.Bool.{Bool, true, false, cond, ◌&&◌}
use mathlib.Core.Logic.{◌⊎◌, inl, inr}
use Prim.Native.Nat.{ℕ, zero, suc, ◌+◌, ◌*◌, ◌-◌, ◌/◌, ◌^◌, ◌≤◌, ◌<◌, zero-le}
use native.Mathlib.Nat.{eq-or-lt_of_le, le_of_suc-le-suc, not-suc-le-zero, zero-lt-suc, add-zero, add-suc, mul-zero}
use native.Mathlib.Nat.{mul-add, mul_comm, mul_assoc, mul-le-mul_right, one-mul, pow-suc, div-eq_of_lt}
use native.Mathlib.Numerals.{add-one}
use native.Mathlib.Omega.{arith}
use lib.Arith.{digits_div}
use lib.Dec.{ltb}
use borrow.Author.Tests.{ltb-true, ltb-false, le-ltb}
use lib.IntN.{ℤ, pos}
use lib.Signed.{lt_z}
use lib.Pow.{pow-add}
use mir.Syntax.{Width}
use mir.Val.{bits, hbits, to_z}
use mir.ValLaws.{pow-bits, to_z_pos}
use Rattle.scalar.proofs.Laws.Twos.{high_is}
use Rattle.operation.specs.Op.{truth, all, tally}

pub all_more : (n : ℕ) (P : ℕ → Bool) → all n P ≡ true → P n ≡ true → all (n + 1) P ≡ true
all_more n P e f = ap (λ (j : ℕ). all j P) (add-one n) ∙ ap₂ ◌&&◌ f e

-- what holds of each holds of all
pub all_of : (n : ℕ) (P : ℕ → Bool) → ((k : ℕ) → k < n → P k ≡ true) → all n P ≡ true
all_of zero P h = refl
all_of (suc n) P h = ap₂ ◌&&◌ (h n (omega arith)) (all_of n P (λ k l. h k (omega arith)))

and-false : (b : Bool) → (b && false) ≡ false
and-false true = refl
and-false false = refl

last-false : (n i : ℕ) (P : ℕ → Bool) → P i ≡ false → (i < n → all n P ≡ false) → (i ≡ n) ⊎ (i < n) → (P n && all n P) ≡ false
last-false n i P e k (inl p) = ap (λ (b : Bool). b && all n P) (subst (λ (j : ℕ). P j ≡ false) p e)
last-false n i P e k (inr l) = ap (λ (b : Bool). P n && b) (k l) ∙ and-false (P n)

pub all-false : (n i : ℕ) (P : ℕ → Bool) → i < n → P i ≡ false → all n P ≡ false
all-false zero i P h e = absurd (not-suc-le-zero h)
all-false (suc n) i P h e = last-false n i P e (λ l. all-false n i P l e) (eq-or-lt_of_le (le_of_suc-le-suc h))

both : (a b : Bool) → (a && b) ≡ true → (a ≡ true) × (b ≡ true)
both true b e = (refl, e)
both false b e = absurd (subst (λ (t : Bool). cond t ⊥ (Unit {0})) e tt)

-- what holds of all holds of each
each_of : (n i : ℕ) (P : ℕ → Bool) → (P n ≡ true) × (all n P ≡ true) → (i < n → P i ≡ true) → (i ≡ n) ⊎ (i < n) → P i ≡ true
each_of n i P h f (inl p) = subst (λ (j : ℕ). P j ≡ true) (sym p) h.0
each_of n i P h f (inr l) = f l

pub all-each : (n i : ℕ) (P : ℕ → Bool) → all n P ≡ true → i < n → P i ≡ true
all-each zero i P e h = absurd (not-suc-le-zero h)
all-each (suc n) i P e h = each_of n i P (both (P n) (all n P) e) (λ l. all-each n i P (both (P n) (all n P) e).1 l) (eq-or-lt_of_le (le_of_suc-le-suc h))

-- the top bit is the sign
pub sign_bit : (w : Width) (x : ℕ) → x < 2 ^ bits w → x / 2 ^ hbits w ≡ truth (lt_z (to_z w x) (pos 0))
sign_bit w x f = at (ltb x (2 ^ hbits w)) refl
  where
    at : (b : Bool) → ltb x (2 ^ hbits w) ≡ b → x / 2 ^ hbits w ≡ truth (lt_z (to_z w x) (pos 0))
    at true e =
        div-eq_of_lt (ltb-true x (2 ^ hbits w) e)
        ∙ sym (ap (λ (z : ℤ). truth (lt_z z (pos 0))) (to_z_pos w x (ltb-true x (2 ^ hbits w) e)) ∙ ap truth (le-ltb x 0 zero-le))
    at false e =
        ap (λ (m : ℕ). m / 2 ^ hbits w) (omega (arith, ltb-false x (2 ^ hbits w) e, one-mul (2 ^ hbits w)))
        ∙ digits_div 1 (rest (ltb-false x (2 ^ hbits w) e))
        ∙ sym (ap (λ (z : ℤ). truth (lt_z z (pos 0))) (high_is w x (ltb-false x (2 ^ hbits w) e) f))
      where
        rest : 2 ^ hbits w ≤ x → x - 2 ^ hbits w < 2 ^ hbits w
        rest h = omega (arith, pow-bits w)

-- ---- tallies

bit-mul : (b p : ℕ) → b ≤ 1 → b * p ≤ p
bit-mul b p h = subst (λ (j : ℕ). b * p ≤ j) (one-mul p) (mul-le-mul_right p h)

pub truth-le : (b : Bool) → truth b ≤ 1
truth-le true = omega arith
truth-le false = omega arith

pub tally-lt : (n : ℕ) (P : ℕ → Bool) → tally n P < 2 ^ n
tally-lt zero P = zero-lt-suc 0
tally-lt (suc n) P = omega (arith, bit-mul (truth (P n)) (2 ^ n) (truth-le (P n)), pow-suc 2 n, tally-lt n P)

pub tally-same : (n : ℕ) (P Q : ℕ → Bool) → ((k : ℕ) → k < n → P k ≡ Q k) → tally n P ≡ tally n Q
tally-same zero P Q e = refl
tally-same (suc n) P Q e = ap₂ (λ (a : ℕ) (b : Bool). a + truth b * 2 ^ n) (tally-same n P Q (λ k l. e k (omega arith))) (e n (omega arith))

-- of the first m, then of the next n
pub tally-parts : (m n : ℕ) (P : ℕ → Bool) → tally (m + n) P ≡ tally m P + 2 ^ m * tally n (λ k. P (m + k))
tally-parts m zero P = ap (λ (j : ℕ). tally j P) (add-zero m) ∙ omega (arith, mul-zero (2 ^ m))
tally-parts m (suc n) P =
    let t : ℕ = truth (P (m + n)) in
    ap (λ (j : ℕ). tally j P) (add-suc m n) ∙ ap₂ (λ (a b : ℕ). a + t * b) (tally-parts m n P) (pow-add 2 m n)
    ∙ omega (
      arith,
      mul-add (2 ^ m) (tally n (λ k. P (m + k))) (t * 2 ^ n),
      mul_assoc (2 ^ m) t (2 ^ n),
      mul_assoc t (2 ^ m) (2 ^ n),
      ap (λ (j : ℕ). j * 2 ^ n) (mul_comm t (2 ^ m)),
    )

-- the first is the lowest bit
pub tally-low : (n : ℕ) (P : ℕ → Bool) → tally (suc n) P ≡ tally n (λ k. P (suc k)) * 2 + truth (P 0)
tally-low zero P = omega arith
tally-low (suc n) P =
    ap (λ (a : ℕ). a + truth (P (suc n)) * 2 ^ suc n) (tally-low n P)
    ∙ omega (arith, ap (λ (j : ℕ). truth (P (suc n)) * j) (pow-suc 2 n), mul_assoc (truth (P (suc n))) (2 ^ n) 2)
