-- A turn makes one line, which is written where there is room for all.
use Prim.Native.Nat.{◌-◌}
use lib.ListN.{length}
use Rattle.listing.proofs.Passing.{Passing}
use Rattle.listing.proofs.pass.Given as goal

abbrev pub invariant-loop-at : goal.invariant-loop-at
invariant-loop-at l = Passing l.strip l.initial.out l.out l.kinds l.blocks l.text l.state l.at l.to

abbrev pub decreases-loop-at : goal.decreases-loop-at
decreases-loop-at l = length l.strip - l.at
