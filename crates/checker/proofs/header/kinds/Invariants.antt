-- As many kinds as were read.
use Rattle.checker.proofs.Fronts.{KindsRead}
use Rattle.checker.proofs.header.kinds.Given as goal

abbrev pub invariant-loop-k : goal.invariant-loop-k
invariant-loop-k l = KindsRead l.strip l.k
