-- Operands missing, none left, no room, or one left.
use mathlib.Core.Path.{sym, ◌∙◌}
use native.Mathlib.Omega.{arith}
use Rattle.checker.proofs.Applied.{low-bytes, applies-lacks, applies-none, applies-over, applies-one}
use Rattle.checker.proofs.stack.apply.Goals as goal

pub returns-in_default-clause-applies : goal.returns-in_default-clause-applies
returns-in_default-clause-applies c =
    λ outer ins outs f t small is. applies-lacks (c.in_default.ensures.under outer ins f t (low-bytes small is ∙ sym c.from-taken.ensures))

pub returns-then-result-eq0-clause-applies : goal.returns-then-result-eq0-clause-applies
returns-then-result-eq0-clause-applies c =
    λ outer ins outs f t small is.
    applies-none small is t (c.in-Some.ensures.under outer ins f t (low-bytes small is ∙ sym c.from-taken.ensures))
    (omega (arith, c.in-Some.ensures.most, c.requires.1)) c.if-result-eq0.true

pub returns-then-base-eq-STACK-clause-applies : goal.returns-then-base-eq-STACK-clause-applies
returns-then-base-eq-STACK-clause-applies c =
    λ outer ins outs f t small is.
    applies-over small is t (c.in-Some.ensures.under outer ins f t (low-bytes small is ∙ sym c.from-taken.ensures))
    c.if-result-eq0.false c.if-base-eq-STACK.true

pub returns-clause-applies : goal.returns-clause-applies
returns-clause-applies c =
    λ outer ins outs f t small is.
    applies-one small is t (c.in-Some.ensures.under outer ins f t (low-bytes small is ∙ sym c.from-taken.ensures))
    c.if-result-eq0.false c.requires.2 (omega (arith, c.in-Some.ensures.most, c.requires.1, c.if-base-eq-STACK.false))
