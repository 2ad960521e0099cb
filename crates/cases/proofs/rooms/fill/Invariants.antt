use Rattle.std.proofs.Common.{◌≡◌, ◌%◌, ◌<◌, ℕ, slice_index}
use Rattle.cases.proofs.rooms.fill.Given as goal

abbrev pub invariant-loop-address : goal.invariant-loop-address
invariant-loop-address l = (k : ℕ) → k < l.address → slice_index l.mem k ≡ k % 256
