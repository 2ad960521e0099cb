-- The kinds passed stand after the bracket.
use Rattle.listing.proofs.Parts.{Stacking}
use Rattle.listing.proofs.stack.stack.Given as goal

abbrev pub invariant-loop-k : goal.invariant-loop-k
invariant-loop-k l = Stacking l.kinds l.depth l.initial.out l.initial.to l.to l.out l.k
