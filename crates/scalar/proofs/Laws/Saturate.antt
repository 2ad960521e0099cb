-- Saturation, by the library's clamp, minimum and difference.
use Rattle.std.proofs.Common.{◌≡◌, ℕ, zero, suc, ◌+◌, ◌-◌, ◌^◌, ◌<◌, ℤ, pos, negsuc, min, nat_abs, ap, ◌∙◌, mod-eq_of_lt, arith, pow_pos, to_z, of_z}
use Rattle.std.specs.Int.{int_min, int_max}
use Rattle.std.proofs.lemmas.Bool.Decides.{nat_tests}
use Rattle.std.proofs.lemmas.Int.{ints}
use lib.Signed.{mag, ◌≤ℤ◌}
use mir.Syntax.{Width}
use mir.Val.{bits, hbits}
use Rattle.scalar.specs.Bounds.{least, largest, all_ones}
use Rattle.scalar.specs.Scalar.{S, U, clamp, sat, iaddsat, isubsat, inarrow}
use Rattle.scalar.proofs.Laws.Wrap.{wrap-held, sub_cases}
use Rattle.scalar.proofs.Laws.Twos.{half-power}

between : (lo hi z : ℤ) → lo ≤ℤ hi → clamp lo hi z ≡ int_max lo (int_min z hi)
unfolding clamp
between lo hi z h = grind (arith, ints)

clamped-s : (w : Width) (z : ℤ) → mag (clamp (least w) (largest w) z) < 2 ^ hbits w
unfolding clamp
clamped-s w (pos n) = grind (arith, nat_tests, half-power w, pow_pos (hbits w))
clamped-s w (negsuc n) = grind (arith, nat_tests, half-power w, pow_pos (hbits w))

clamped-u : (w : Width) (z : ℤ) → sat U w z ≡ nat_abs (clamp (pos 0) (pos (all_ones w)) z)
unfolding clamp sat
clamped-u w (pos n) = grind (arith, nat_tests, pow_pos (bits w), mod-eq_of_lt)
clamped-u w (negsuc n) = mod-eq_of_lt (pow_pos (bits w))

pub sat_s_is : (w : Width) (z : ℤ) → sat S w z ≡ of_z w (int_max (least w) (int_min z (largest w)))
unfolding sat
sat_s_is w z =
    wrap-held w (clamp (least w) (largest w) z) (clamped-s w z)
    ∙ ap (of_z w) (between (least w) (largest w) z (omega (arith, ints)))

pub sat_u_is : (w : Width) (z : ℤ) → sat U w z ≡ nat_abs (int_max (pos 0) (int_min z (pos (all_ones w))))
sat_u_is w z = clamped-u w z ∙ ap nat_abs (between (pos 0) (pos (all_ones w)) z (omega (arith, ints)))

pub inarrow_s_is : (w w' : Width) (x : ℕ) → inarrow S w w' x ≡ of_z w' (int_max (least w') (int_min (to_z w x) (largest w')))
unfolding inarrow
inarrow_s_is w w' x = sat_s_is w' (to_z w x)

pub inarrow_u_is : (w w' : Width) (x : ℕ) → inarrow U w w' x ≡ nat_abs (int_max (pos 0) (int_min (to_z w x) (pos (all_ones w'))))
unfolding inarrow
inarrow_u_is w w' x = sat_u_is w' (to_z w x)

-- of a natural, and of an integer below 0
sat-nat : (w : Width) (n : ℕ) → sat U w (pos n) ≡ min n (all_ones w)
unfolding sat clamp
sat-nat w n = grind (arith, nat_tests, pow_pos (bits w), mod-eq_of_lt)

sat-below : (w : Width) (n : ℕ) → sat U w (negsuc n) ≡ 0
unfolding sat clamp
sat-below w n = mod-eq_of_lt (pow_pos (bits w))

pub iaddsat_u_is : (w : Width) (x y : ℕ) → iaddsat U w x y ≡ min (x + y) (2 ^ bits w - 1)
unfolding iaddsat
iaddsat_u_is w x y = sat-nat w (x + y)

pub isubsat_u_is : (w : Width) (x y : ℕ) → x < 2 ^ bits w → isubsat U w x y ≡ x - y
unfolding isubsat
isubsat_u_is w x zero f = sat-nat w (x + 0) ∙ omega arith
isubsat_u_is w x (suc y) f =
    sub_cases x (suc y) (λ (z : ℤ). sat U w z ≡ x - suc y) (λ l. sat-nat w (x - suc y) ∙ omega arith) (λ l. sat-below w _ ∙ omega arith)
