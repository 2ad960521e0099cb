use Rattle.std.proofs.Common.{◌≤◌, length}
use Rattle.cases.proofs.values.items.Given as goal

abbrev pub invariant-loop-item : goal.invariant-loop-item
invariant-loop-item l = l.n ≤ length l.room
