-- For callers: "modulo 2^w" and "signed" mean what they say.
use Rattle.std.proofs.Common.{◌≡◌, refl, ℕ, zero, suc, ◌+◌, ◌-◌, ◌*◌, ◌/◌, ◌%◌, ◌^◌, ◌<◌, ◌≤◌, ℤ, pos, negsuc, ◌+ℤ◌, ◌-ℤ◌, ◌*ℤ◌, sym, ap, ◌∙◌, subst, mod-lt, suc-mul, div-add-mod', arith, pow_pos}
use mir.Syntax.{Width}
use mir.Val.{bits}
use mir.ValLaws.{to_z_pos}
use Rattle.scalar.specs.Bounds.{all_ones}
use Rattle.scalar.specs.Scalar.{S, value, wrap}
use Rattle.scalar.proofs.Laws.Twos.{half-power, high_is}
use Rattle.scalar.proofs.Laws.Wrap.{sub_cases}

minus-lt : (x y : ℕ) → x < y → pos x -ℤ pos y ≡ negsuc (y - suc x)
minus-lt x zero h = absurd (omega arith)
minus-lt x (suc y) h = sub_cases x (suc y) (λ z. z ≡ negsuc (suc y - suc x)) (λ l. absurd (omega arith)) (λ l. refl)

-- `wrap` is the reduction modulo 2^w: below 2^w, and a multiple of 2^w away
pub wrap-lt : (w : Width) (z : ℤ) → wrap w z < 2 ^ bits w
wrap-lt w (pos n) = mod-lt n (pow_pos (bits w))
wrap-lt w (negsuc n) = omega (arith, pow_pos (bits w))

pub wrap-is : (w : Width) (z : ℤ) → (q : ℤ) × (z ≡ pos (wrap w z) +ℤ q *ℤ pos (2 ^ bits w))
wrap-is w (pos n) = (pos (n / 2 ^ bits w), ap pos (omega (arith, div-add-mod' n (2 ^ bits w))))
wrap-is w (negsuc n) = (
  negsuc (n / 2 ^ bits w),
  sym (minus-lt (all_ones w - n % 2 ^ bits w) (suc (n / 2 ^ bits w) * 2 ^ bits w) (omega (arith, whole, pow_pos (bits w)))
      ∙ ap negsuc (omega (arith, whole, part, mod-lt n (pow_pos (bits w))))),
)
  where
    whole : suc (n / 2 ^ bits w) * 2 ^ bits w ≡ n / 2 ^ bits w * 2 ^ bits w + 2 ^ bits w
    whole = suc-mul (n / 2 ^ bits w) (2 ^ bits w)

    part : n / 2 ^ bits w * 2 ^ bits w + n % 2 ^ bits w ≡ n
    part = div-add-mod' n (2 ^ bits w)

-- a signed lane is x below 2^(w-1), and x - 2^w from there on
pub value_low : (w : Width) (x : ℕ) → x < 2 ^ (bits w - 1) → value S w x ≡ pos x
value_low w x h = to_z_pos w x (subst (λ (p : ℕ). x < p) (half-power w) h)

pub value-high : (w : Width) (x : ℕ) → 2 ^ (bits w - 1) ≤ x → x < 2 ^ bits w → value S w x ≡ pos x -ℤ pos (2 ^ bits w)
value-high w x h f =
    high_is w x (subst (λ (p : ℕ). p ≤ x) (half-power w) h) f ∙ sym (minus-lt x (2 ^ bits w) f ∙ ap negsuc (omega arith))
