-- The first i lanes are not zero.
use mathlib.Core.Path.{◌≡◌}
use mathlib.Core.Bool.{true, not}
use lib.Dec.{eqb}
use Rattle.operation.specs.Vector.{lane}
use Rattle.operation.specs.Op.{all}
use Rattle.lane.proofs.lanes.testing.all_true.Given as goal

abbrev pub invariant-loop-i : goal.invariant-loop-i
invariant-loop-i g l = all l.i (λ n. not (eqb (lane g.S.Lane.Lane.width l.a.bytes n) 0)) ≡ true
