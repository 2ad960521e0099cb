-- A byte below the count, or the refusal of one that is not.
use Rattle.std.proofs.lemmas.Result.{err_from_is_err_and}
use Rattle.instr.specs.Inner.Steps.{lane_ends}
use Rattle.instr.proofs.immediates.with_lane.Goals as goal

pub returns-in_err-lane-clause-is : goal.returns-in_err-lane-clause-is
unfolding lane_ends
returns-in_err-lane-clause-is c at =
    let p = err_from_is_err_and c.from_residual.result c.from_residual.ensures.1 in
    rw (p.1, p.2, ← c.in_err-lane.ensures.is)

pub returns-clause-is : goal.returns-clause-is
unfolding lane_ends
returns-clause-is c at = rw (← c.in_ok-lane.ensures.is)
