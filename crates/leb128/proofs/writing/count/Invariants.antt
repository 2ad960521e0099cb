-- The counting loop keeps `Counting`.
use Rattle.leb128.proofs.WriteLoops.{Counting}
use Rattle.leb128.proofs.writing.count.Given as goal

abbrev pub invariant-loop-left : goal.invariant-loop-left
invariant-loop-left l = Counting l.limit l.n l.left l.bytes

abbrev pub decreases-loop-left : goal.decreases-loop-left
decreases-loop-left l = l.left
