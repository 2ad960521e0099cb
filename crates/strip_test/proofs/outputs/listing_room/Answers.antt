-- By the law of a repeated element's length: the array itself is never written out.
use Rattle.std.proofs.Common.{ℕ, sym}
use Rattle.std.proofs.lemmas.List.{length-replicate}
use Rattle.strip_test.proofs.outputs.listing_room.Goals as goal

pub returns : goal.returns
returns c = sym (length-replicate {A = ℕ} 262144 0xEE)
