-- By the group.
use mathlib.Core.Path.{refl}
use native.Mathlib.Omega.{arith}
use Rattle.checker.proofs.Choices.{as-opener, as-brancher}
use Rattle.checker.proofs.turns.turn.Goals as goal

pub returns-then-group-lt-GROUP_BR-clause-by_index : goal.returns-then-group-lt-GROUP_BR-clause-by_index
returns-then-group-lt-GROUP_BR-clause-by_index c =
    λ s n v i ls rs fs x. as-opener x c.group-group.ensures
    (let m = c.requires.0.turns refl (omega (arith, c.group-group.ensures, c.if-group-eq-GROUP_END.false)) in omega (arith, m, c.group-group.ensures)) c.if-group-lt-GROUP_BR.true
    (λ e t. c.begin.ensures.judges i ls rs fs _ e t x.framed)

pub returns-clause-by_index : goal.returns-clause-by_index
returns-clause-by_index c =
    λ s n v i ls rs fs x. as-brancher x c.group-group.ensures c.if-group-lt-GROUP_BR.false
    (λ e. c.jump.ensures.judges i ls rs fs e x.results_are x.few x.framed)
