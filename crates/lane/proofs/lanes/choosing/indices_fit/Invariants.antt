-- The first i indices are below 32.
use Prim.Native.Nat.{◌≤◌, ◌-◌}
use mathlib.Core.Path.{◌≡◌}
use mathlib.Core.Bool.{true}
use lib.Dec.{ltb}
use Rattle.operation.specs.Shape.{i8x16}
use Rattle.operation.specs.Vector.{lane}
use Rattle.operation.specs.Op.{all}
use Rattle.lane.proofs.lanes.choosing.indices_fit.Given as goal

abbrev pub invariant-loop-i : goal.invariant-loop-i
invariant-loop-i l = (l.i ≤ 16) × (all l.i (λ n. ltb (lane i8x16 l.s.bytes n) 32) ≡ true)

abbrev pub decreases-loop-i : goal.decreases-loop-i
decreases-loop-i l = 16 - l.i
