-- By the law of a repeated element's length: the array itself is never written out.
use Rattle.std.proofs.Common.{ℕ, ◌+◌, sym}
use Rattle.std.proofs.lemmas.List.{length-replicate}
use Rattle.limits.specs.Limits.{memory_limit}
use Rattle.cases.proofs.rooms.memory_room.Goals as goal

pub returns : goal.returns
returns c = sym (length-replicate {A = ℕ} (memory_limit + 1) 0)
