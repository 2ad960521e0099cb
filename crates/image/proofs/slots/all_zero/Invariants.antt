-- What was seen of the bytes so far.
use lib.ListN.{length}
use Rattle.image.proofs.Form.{Looked}
use Rattle.image.proofs.slots.all_zero.Given as goal

abbrev pub invariant-loop-b : goal.invariant-loop-b
invariant-loop-b l = Looked l.bytes 0 (length l.bytes) l.b-index l.clear
