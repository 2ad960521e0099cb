-- Operands missing, or the rest is dead.
use mathlib.Core.Path.{ap, ◌∙◌}
use mathlib.Core.Bool.{not}
use Rattle.checker.proofs.Unders.{none-told, some-told}
use Rattle.checker.proofs.Branchings.{branches-lacks, branches-done}
use Rattle.checker.proofs.turns.branch.Goals as goal

pub returns-then-is_none : goal.returns-then-is_none
returns-then-is_none c =
    λ i ls rs fs blocks g w. branches-lacks c.args.takes c.requires.1 c.under-base.ensures.under g w
    (none-told _ (c.is_none.ensures ∙ ap not c.if-is_none.true))

pub returns : goal.returns
returns c =
    λ i ls rs fs blocks g w. branches-done c.args.takes c.requires.1 c.under-base.ensures.under g w
    (some-told _ (c.is_none.ensures ∙ ap not c.if-is_none.false)).1 c.requires.0
