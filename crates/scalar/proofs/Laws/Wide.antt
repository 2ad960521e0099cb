-- Each operation between two widths, by the arithmetic of the wider one.
use Rattle.std.proofs.Common.{◌≡◌, ℕ, ◌*◌, ◌^◌, ◌<◌, ℤ, pos, ◌+ℤ◌, ◌-ℤ◌, sym, ap, ◌∙◌, arith}
use Rattle.std.proofs.lemmas.Nat.{mul-mod}
use lib.Signed.{mag}
use mir.Syntax.{Width}
use mir.Val.{bits, hbits, to_z}
use mir.ValLaws.{bits-suc}
use Rattle.scalar.specs.Scalar.{Sign, S, U, value, wrap, sat, iadd, isub, imul, iaddsat, isubsat, iextend, inarrow, iextmul, iextadd}
use Rattle.scalar.proofs.Laws.Exact.{read_back}
use Rattle.scalar.proofs.Laws.Integers.{wrap-lt}
use Rattle.scalar.proofs.Laws.Lanes.{isub_is}
use Rattle.scalar.proofs.Laws.Twos.{sum_fits, diff-fits, signed}
use Rattle.scalar.proofs.Laws.Wrap.{wrap-add, wrap-sub}

pub iextmul_u_is : (w w' : Width) (x y : ℕ) → iextmul U w w' x y ≡ imul w' (iextend U w w' x) (iextend U w w' y)
unfolding iextend iextmul
iextmul_u_is w w' x y = mul-mod x y (2 ^ bits w')

pub iextadd_is : (s : Sign) (w w' : Width) (x y : ℕ) → iextadd s w w' x y ≡ iadd w' (iextend s w w' x) (iextend s w w' y)
unfolding iextend iextadd
iextadd_is s w w' x y = wrap-add w' (value s w x) (value s w y)

module _ (w w' : Width) (twice : bits w' ≡ 2 * bits w) (x y : ℕ) where
  wider : hbits w < hbits w'
  wider = omega (arith, bits-suc w, bits-suc w')

  -- what w' holds is read back, and narrowed
  narrowed : (z : ℤ) → mag z < 2 ^ hbits w' → inarrow S w' w (wrap w' z) ≡ sat S w z
  unfolding inarrow
  narrowed z h = ap (sat S w) (read_back w' z h)

  pub iaddsat_is : iaddsat S w x y ≡ inarrow S w' w (iextadd S w w' x y)
  unfolding iaddsat iextadd
  iaddsat_is = sym (narrowed (to_z w x +ℤ to_z w y) (sum_fits w w' (to_z w x) (to_z w y) wider (signed w x) (signed w y)).sfits)

  pub isubsat_is : isubsat S w x y ≡ inarrow S w' w (isub w' (iextend S w w' x) (iextend S w w' y))
  unfolding isubsat isub iextend
  isubsat_is = sym (ap (inarrow S w' w) same ∙ narrowed (p -ℤ q) (diff-fits w w' p q wider (signed w x) (signed w y)).sfits)
    where
      p : ℤ
      p = to_z w x

      q : ℤ
      q = to_z w y

      same : wrap w' (pos (wrap w' p) -ℤ pos (wrap w' q)) ≡ wrap w' (p -ℤ q)
      same = isub_is w' (wrap w' p) (wrap w' q) (wrap-lt w' p) (wrap-lt w' q) ∙ sym (wrap-sub w' p q)

pub ruleset wide = (iextmul_u_is, iextadd_is, iaddsat_is, isubsat_is)
