-- The first i lanes are done.
use Prim.Native.Nat.{ℕ, ◌<◌}
use mathlib.Core.Path.{◌≡◌}
use Rattle.operation.specs.Vector.{Sixteen}
use Rattle.lane.proofs.Laws.Build.{Begun}
use Rattle.lane.proofs.lanes.each.each_lane.Given as goal

abbrev pub invariant-loop-i : goal.invariant-loop-i
invariant-loop-i g l =
    Sixteen l.r.bytes
    × ((at : ℕ → ℕ) → ((i : ℕ) (x : _) → i < g.S.Shape.LANES → goal.F-post g l.f i x → g.S.Lane.Lane.bits x ≡ at i) → Begun g.S.Lane.Lane.width l.i at l.r.bytes)
