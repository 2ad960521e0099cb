-- An integer modulo 2^w: what the code computes for it.
use Rattle.std.proofs.Common.{◌≡◌, ℕ, zero, suc, ◌+◌, ◌-◌, ◌*◌, ◌/◌, ◌%◌, ◌^◌, ◌<◌, ◌≤◌, Bool, true, false, cond, ltb, ℤ, pos, negsuc, ◌+ℤ◌, ◌-ℤ◌, neg_ℤ, sym, refl, ap, ◌∙◌, mod-lt, mod-eq_of_lt, suc-mul, add-mul, add_comm, div-add-mod', arith, pow_pos, of_z, ltb-false, ltb-true}
use native.Mathlib.Nat.{sub-zero, mod_self, zero-mod, add-mod, add-mul-mod_self_right, add-mod-mod}
use lib.IntN.{sub_ℕ}
use lib.Signed.{mag}
use mir.Syntax.{Width}
use mir.Val.{bits, hbits}
use mir.ValLaws.{half_full}
use Rattle.scalar.specs.Bounds.{all_ones}
use Rattle.scalar.specs.Scalar.{wrap}

-- by the order of the two
pub sub_cases : (a b : ℕ) (P : ℤ → Type 0) → (b ≤ a → P (pos (a - b))) → (a < b → P (negsuc (b - suc a))) → P (sub_ℕ a b)
sub_cases a b P ge lt = go (ltb a b) refl
  where
    go : (t : Bool) → ltb a b ≡ t → P (cond t (negsuc (b - suc a)) (pos (a - b)))
    go true e = lt (ltb-true a b e)
    go false e = ge (ltb-false a b e)

-- what w bits hold is as it was
pub wrap-nat : (w : Width) (n : ℕ) → n < 2 ^ bits w → wrap w (pos n) ≡ n
wrap-nat w n h = mod-eq_of_lt h

pub wrap-held : (w : Width) (z : ℤ) → mag z < 2 ^ hbits w → wrap w z ≡ of_z w z
wrap-held w (pos n) h = mod-eq_of_lt (half_full w h)
wrap-held w (negsuc n) h = ap (λ (m : ℕ). all_ones w - m) (mod-eq_of_lt (half_full w h)) ∙ omega arith

-- two numbers that differ by multiples of m
cross : (m x y p q : ℕ) → x + p * m ≡ y + q * m → x % m ≡ y % m
cross m x y p q e = sym (add-mul-mod_self_right x p m) ∙ ap (λ (n : ℕ). n % m) e ∙ add-mul-mod_self_right y q m

module _ (m : ℕ) (pos-m : 0 < m) where
  minus-over : (a b : ℕ) → suc b ≤ a → (a - suc b) % m ≡ (a % m + (m - 1 - b % m)) % m
  minus-over a b h =
      cross m (a - suc b) (a % m + (m - 1 - b % m)) (suc (b / m)) (a / m)
      (omega (arith, div-add-mod' a m, div-add-mod' b m, suc-mul (b / m) m, mod-lt b pos-m))

  minus-under : (a b : ℕ) → a < suc b → m - 1 - (suc b - suc a) % m ≡ (a % m + (m - 1 - b % m)) % m
  minus-under a b h =
      sym (mod-eq_of_lt (below (suc b - suc a)))
      ∙ cross m (m - 1 - (suc b - suc a) % m) (a % m + (m - 1 - b % m)) (b / m) ((suc b - suc a) / m + a / m)
      (omega (arith, div-add-mod' a m, div-add-mod' b m, div-add-mod' (suc b - suc a) m, add-mul ((suc b - suc a) / m) (a / m) m, mod-lt b pos-m, mod-lt (suc b - suc a) pos-m))
    where
      below : (d : ℕ) → m - 1 - d % m < m
      below d = omega arith

  minus-both : (a b : ℕ) → m - 1 - suc (a + b) % m ≡ (m - 1 - a % m + (m - 1 - b % m)) % m
  minus-both a b =
      sym (mod-eq_of_lt (below (suc (a + b))))
      ∙ cross m (m - 1 - suc (a + b) % m) (m - 1 - a % m + (m - 1 - b % m)) (suc (a / m + b / m)) (suc (a + b) / m)
      (omega (
        arith,
        div-add-mod' a m,
        div-add-mod' b m,
        div-add-mod' (suc (a + b)) m,
        suc-mul (a / m + b / m) m,
        add-mul (a / m) (b / m) m,
        mod-lt a pos-m,
        mod-lt b pos-m,
        mod-lt (suc (a + b)) pos-m,
      ))
    where
      below : (d : ℕ) → m - 1 - d % m < m
      below d = omega arith

mixed : (w : Width) (a b : ℕ) → wrap w (sub_ℕ a (suc b)) ≡ (a % 2 ^ bits w + (all_ones w - b % 2 ^ bits w)) % 2 ^ bits w
mixed w a b =
    sub_cases a (suc b) (λ z. wrap w z ≡ (a % 2 ^ bits w + (all_ones w - b % 2 ^ bits w)) % 2 ^ bits w)
    (minus-over (2 ^ bits w) (pow_pos (bits w)) a b) (minus-under (2 ^ bits w) (pow_pos (bits w)) a b)

-- a sum modulo 2^w is that of its parts
pub wrap-add : (w : Width) (p q : ℤ) → wrap w (p +ℤ q) ≡ (wrap w p + wrap w q) % 2 ^ bits w
wrap-add w (pos a) (pos b) = add-mod a b (2 ^ bits w)
wrap-add w (pos a) (negsuc b) = mixed w a b
wrap-add w (negsuc a) (pos b) = mixed w b a ∙ ap (λ (n : ℕ). n % 2 ^ bits w) (add_comm (b % 2 ^ bits w) (all_ones w - a % 2 ^ bits w))
wrap-add w (negsuc a) (negsuc b) = minus-both (2 ^ bits w) (pow_pos (bits w)) a b

-- the opposite
pub wrap-opposite : (w : Width) (q : ℤ) → wrap w (neg_ℤ q) ≡ (2 ^ bits w - wrap w q) % 2 ^ bits w
wrap-opposite w (pos zero) =
    zero-mod (2 ^ bits w) ∙ sym (ap (λ (n : ℕ). (2 ^ bits w - n) % 2 ^ bits w) (zero-mod (2 ^ bits w)) ∙ ap (λ (n : ℕ). n % 2 ^ bits w) (sub-zero (2 ^ bits w)) ∙ mod_self (2 ^ bits w))
wrap-opposite w (pos (suc n)) =
    sym (mod-eq_of_lt (omega (arith, pow_pos (bits w))))
    ∙ cross (2 ^ bits w) (all_ones w - n % 2 ^ bits w) (2 ^ bits w - suc n % 2 ^ bits w) (suc n / 2 ^ bits w) (n / 2 ^ bits w)
    (omega (
      arith,
      div-add-mod' n (2 ^ bits w),
      div-add-mod' (suc n) (2 ^ bits w),
      mod-lt n (pow_pos (bits w)),
      mod-lt (suc n) (pow_pos (bits w)),
    ))
wrap-opposite w (negsuc n) =
    cross (2 ^ bits w) (suc n) (2 ^ bits w - (all_ones w - n % 2 ^ bits w)) 0 (n / 2 ^ bits w)
    (omega (arith, div-add-mod' n (2 ^ bits w), mod-lt n (pow_pos (bits w))))

-- a difference modulo 2^w is that of its parts
pub wrap-sub : (w : Width) (p q : ℤ) → wrap w (p -ℤ q) ≡ (wrap w p + (2 ^ bits w - wrap w q)) % 2 ^ bits w
wrap-sub w p q =
    wrap-add w p (neg_ℤ q) ∙ ap (λ (n : ℕ). (wrap w p + n) % 2 ^ bits w) (wrap-opposite w q)
    ∙ add-mod-mod (wrap w p) (2 ^ bits w - wrap w q) (2 ^ bits w)
