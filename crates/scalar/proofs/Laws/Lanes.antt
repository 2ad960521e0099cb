-- Each operation as the code computes it, by the library's methods.
use Rattle.std.proofs.Common.{◌≡◌, ℕ, ◌+◌, ◌-◌, ◌/◌, ◌%◌, ◌^◌, ◌<◌, ℤ, pos, ◌*ℤ◌, nat_abs, sym, ap, ap₂, ◌∙◌, SFits, to_z, of_z, mod-eq_of_lt, lt_of_le_of_lt}
use Rattle.std.proofs.lemmas.Int.{ints}
use lib.Pow.{shr_le}
use lib.Signed.{shr_z, mag_shr}
use mir.Syntax.{Width}
use mir.Val.{bits, hbits}
use mir.ValLaws.{pow-bits, to_z-of_z}
use Rattle.scalar.specs.Scalar.{S, U, isub, ineg, iabs, ishr, iextend, iextmul, idot}
use Rattle.scalar.proofs.Laws.Saturate.{iaddsat_u_is, isubsat_u_is, sat_s_is, sat_u_is, inarrow_s_is, inarrow_u_is}
use Rattle.scalar.proofs.Laws.Twos.{abs-held, widen-fits, product-fits, signed}
use Rattle.scalar.proofs.Laws.Wrap.{wrap-nat, wrap-held, wrap-add, wrap-opposite, wrap-sub}

pub isub_is : (w : Width) (x y : ℕ) → x < 2 ^ bits w → y < 2 ^ bits w → isub w x y ≡ (x + (2 ^ bits w - y)) % 2 ^ bits w
unfolding isub
isub_is w x y hx hy = wrap-sub w (pos x) (pos y) ∙ ap₂ (λ (m n : ℕ). (m + (2 ^ bits w - n)) % 2 ^ bits w) (mod-eq_of_lt hx) (mod-eq_of_lt hy)

pub ineg_is : (w : Width) (x : ℕ) → x < 2 ^ bits w → ineg w x ≡ (2 ^ bits w - x) % 2 ^ bits w
unfolding ineg
ineg_is w x h = wrap-opposite w (pos x) ∙ ap (λ (n : ℕ). (2 ^ bits w - n) % 2 ^ bits w) (mod-eq_of_lt h)

pub iabs_is : (w : Width) (x : ℕ) → iabs w x ≡ nat_abs (to_z w x)
unfolding iabs
iabs_is w x = wrap-nat w (nat_abs (to_z w x)) (abs-held w x)

pub ishr_s_is : (w : Width) (n x : ℕ) → ishr S w n x ≡ of_z w (shr_z (to_z w x) (2 ^ (n % bits w)))
unfolding ishr
ishr_s_is w n x = wrap-held w (shr_z (to_z w x) (2 ^ (n % bits w))) (lt_of_le_of_lt (mag_shr (to_z w x) (2 ^ (n % bits w))) (signed w x))

pub ishr_u_is : (w : Width) (n x : ℕ) → x < 2 ^ bits w → ishr U w n x ≡ x / 2 ^ (n % bits w)
unfolding ishr
ishr_u_is w n x h = mod-eq_of_lt (lt_of_le_of_lt (shr_le x (n % bits w)) h)

-- ---- in twice the width, where each is exact
pub iextend_s_is : (w w' : Width) (x : ℕ) → hbits w < hbits w' → iextend S w w' x ≡ of_z w' (to_z w x)
unfolding iextend
iextend_s_is w w' x t = wrap-held w' (to_z w x) (widen-fits w w' (to_z w x) t (signed w x)).sfits

pub iextend_u_is : (w w' : Width) (x : ℕ) → x < 2 ^ bits w' → iextend U w w' x ≡ x
unfolding iextend
iextend_u_is w w' x h = mod-eq_of_lt h

pub iextmul_s_is : (w w' : Width) (x y : ℕ) → hbits w + hbits w < hbits w'
    → iextmul S w w' x y ≡ of_z w' (to_z w' (of_z w' (to_z w x *ℤ to_z w y)))
unfolding iextmul
iextmul_s_is w w' x y t = wrap-held w' z k.sfits ∙ ap (of_z w') (sym (to_z-of_z w' z k))
  where
    z : ℤ
    z = to_z w x *ℤ to_z w y

    k : SFits w' z
    k = product-fits w w' (to_z w x) (to_z w y) t (signed w x) (signed w y)

pub idot_is : (w w' : Width) (x y x' y' : ℕ) → idot w w' x y x' y' ≡ (iextmul S w w' x y + iextmul S w w' x' y') % 2 ^ bits w'
unfolding idot iextmul
idot_is w w' x y x' y' = wrap-add w' (to_z w x *ℤ to_z w y) (to_z w x' *ℤ to_z w y')

pub ruleset lanes = (isub_is, ineg_is, iabs_is, ishr_s_is, ishr_u_is, iextend_s_is, iextend_u_is, iextmul_s_is, iaddsat_u_is, isubsat_u_is, sat_s_is, sat_u_is, inarrow_s_is, inarrow_u_is, idot_is, ints, to_z-of_z)
