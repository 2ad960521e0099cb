use Rattle.std.proofs.Common.{length, ◌-◌}
use Rattle.listing.proofs.Following.{Follows}
use Rattle.lister.proofs.lines.print.Given as goal

abbrev pub invariant-loop-at : goal.invariant-loop-at
invariant-loop-at g l = Follows l.strip l.kinds l.blocks l.text l.state l.at

abbrev pub decreases-loop-at : goal.decreases-loop-at
decreases-loop-at g l = length l.strip - l.at
