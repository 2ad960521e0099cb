-- A turn passes one operand.
use Rattle.checker.proofs.Operands.{Popping}
use Rattle.checker.proofs.stack.under.Given as goal

abbrev pub invariant-loop-left : goal.invariant-loop-left
invariant-loop-left l = Popping l.operands l.kinds l.depth l.floor l.dead l.left l.base

abbrev pub decreases-loop-left : goal.decreases-loop-left
decreases-loop-left l = l.base
