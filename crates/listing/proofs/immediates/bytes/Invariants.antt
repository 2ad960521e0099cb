-- The bytes passed stand after the text, a word each.
use Rattle.listing.proofs.Parts.{Telling}
use Rattle.listing.proofs.immediates.bytes.Given as goal

abbrev pub invariant-loop-x : goal.invariant-loop-x
invariant-loop-x l = Telling l.fn.b l.initial.out l.at l.to l.out l.x-index
