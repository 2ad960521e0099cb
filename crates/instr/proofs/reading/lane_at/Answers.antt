-- A byte below the count, one that is not, or none.
use borrow.Author.Tests.{lt-ltb, le-ltb}
use Rattle.std.proofs.lemmas.Result.{err_from_is_err_and}
use Rattle.instr.specs.Decode.{lane_at}
use Rattle.instr.proofs.reading.lane_at.Goals as goal

pub returns-in_err-lane-clause-is : goal.returns-in_err-lane-clause-is
unfolding lane_at
returns-in_err-lane-clause-is c = let p = err_from_is_err_and c.from_residual.result c.from_residual.ensures.1 in rw (p.1, p.2, ← c.in_err-lane.ensures.is)

pub returns-then-from-lanes-clause-is : goal.returns-then-from-lanes-clause-is
unfolding lane_at
returns-then-from-lanes-clause-is c = rw (← c.in_ok-lane.ensures.is, lt-ltb _ _ (rw c.from.ensures at c.if-from-lanes.true))

pub returns-else-from-lanes-clause-is : goal.returns-else-from-lanes-clause-is
unfolding lane_at
returns-else-from-lanes-clause-is c = rw (c.new.ensures, ← c.in_ok-lane.ensures.is, le-ltb _ _ (rw c.from.ensures at c.if-from-lanes.false))
