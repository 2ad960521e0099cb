-- At most four bytes, turned round.
use Rattle.checker.proofs.Digits.{Turning}
use Rattle.checker.proofs.numbers.flipped.Given as goal

abbrev pub invariant-loop-left : goal.invariant-loop-left
invariant-loop-left l = Turning l.kinds l.left l.all

abbrev pub decreases-loop-left : goal.decreases-loop-left
decreases-loop-left l = l.left
