-- The exponent and its refusal, then the offset and its own.
use mathlib.Core.Path.{sym, ◌∙◌}
use Rattle.std.proofs.lemmas.Result.{err_from_is_err_and}
use Rattle.instr.proofs.Memory.{no-exponent, no-offset, no-lane, a-lane}
use Rattle.instr.proofs.immediates.with_memory.Goals as goal

pub returns-in_err-align-clause-is : goal.returns-in_err-align-clause-is
returns-in_err-align-clause-is c h at e =
    let p = err_from_is_err_and c.from_residual.result c.from_residual.ensures.1 in
    rw (p.1, p.2) (sym (no-exponent _ _ _ _ _ _ c.args.laned _ _ (sym c.in_err-align.ensures.is)))

pub returns-in_err-offset-clause-is : goal.returns-in_err-offset-clause-is
returns-in_err-offset-clause-is c h at e =
    let p = err_from_is_err_and c.from_residual-in_err-offset.result c.from_residual-in_err-offset.ensures.1 in
    rw (p.1, p.2) (sym (no-offset _ _ _ _ _ _ _ _ (sym c.in_ok-align.ensures.is) c.args.laned _ _ (sym c.in_err-offset.ensures.is)))

pub returns-then-laned-clause-is : goal.returns-then-laned-clause-is
returns-then-laned-clause-is c h at e =
    rw e at (c.with_lane.ensures.is at)
    ∙ sym (a-lane _ _ _ _ _ _ _ _ (sym c.in_ok-align.ensures.is) _ _ (sym c.in_ok-offset.ensures.is) c.args.laned c.if-laned.true)

pub returns-else-laned-clause-is : goal.returns-else-laned-clause-is
returns-else-laned-clause-is c h at e =
    rw e (sym (no-lane _ c.args.lanes _ _ _ _ _ _ (sym c.in_ok-align.ensures.is) _ _ (sym c.in_ok-offset.ensures.is) c.args.laned c.if-laned.false))
