-- A turn leaves one kind.
use Rattle.checker.proofs.Leavings.{Leaves-on}
use Rattle.checker.proofs.stack.leave.Given as goal

abbrev pub invariant-loop-left : goal.invariant-loop-left
invariant-loop-left l = Leaves-on l.results l.initial.kinds l.base l.kinds l.left l.depth

abbrev pub decreases-loop-left : goal.decreases-loop-left
decreases-loop-left l = l.left
