-- An exponent that fits, one that does not, or none.
use mathlib.Core.Path.{sym, ◌∙◌}
use Rattle.std.proofs.lemmas.Result.{err_from_is_err_and}
use Rattle.instr.proofs.Numbers.{exponent-good, exponent-bad, exponent-none}
use Rattle.instr.proofs.reading.exponent_at.Goals as goal

pub returns-in_err-exponent-clause-is : goal.returns-in_err-exponent-clause-is
returns-in_err-exponent-clause-is c =
    let p = err_from_is_err_and c.from_residual.result c.from_residual.ensures.1 in
    rw (p.1, p.2) (sym (exponent-none _ _ _ _ _ (sym c.in_err-exponent.ensures.is)))

pub returns-then-exponent_fits-clause-is : goal.returns-then-exponent_fits-clause-is
returns-then-exponent_fits-clause-is c = sym (exponent-good _ _ _ _ _ (sym c.in_ok-exponent.ensures.is) (sym c.exponent_fits.ensures ∙ c.if-exponent_fits.true))

pub returns-else-exponent_fits-clause-is : goal.returns-else-exponent_fits-clause-is
returns-else-exponent_fits-clause-is c =
    rw c.new.ensures (sym (exponent-bad _ _ _ _ _ (sym c.in_ok-exponent.ensures.is) (sym c.exponent_fits.ensures ∙ c.if-exponent_fits.false)))
