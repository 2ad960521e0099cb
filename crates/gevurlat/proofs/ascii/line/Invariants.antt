use Rattle.std.proofs.Common.{length, take}
use Rattle.text.proofs.Appending.{Growing}
use Rattle.gevurlat.specs.Text.{hexadecimal}
use Rattle.gevurlat.proofs.ascii.line.Given as goal

abbrev pub invariant-loop-b : goal.invariant-loop-b
invariant-loop-b l = Growing (λ i. hexadecimal (take i l.bytes)) (length l.bytes) l.initial.out l.at l.to l.out l.b-index
