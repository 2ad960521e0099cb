-- The operands and an i32 over them taken, and the operands left.
use Rattle.checker.proofs.Same.{as-told, err-told}
use Rattle.checker.proofs.Branchings.{may-branches}
use Rattle.checker.proofs.turns.may_branch.Goals as goal

pub returns-in_err-depth-clause-judges : goal.returns-in_err-depth-clause-judges
returns-in_err-depth-clause-judges c =
    λ i ls rs fs blocks g w. as-told (err-told c.from_residual.ensures)
    (may-branches c.args.takes c.flipped-left.result c.flipped-left.ensures c.in_err-depth.ensures.applies g w)

pub returns-clause-judges : goal.returns-clause-judges
returns-clause-judges c =
    λ i ls rs fs blocks g w. may-branches c.args.takes c.flipped-left.result c.flipped-left.ensures
    c.in_ok-depth.ensures.applies g w
