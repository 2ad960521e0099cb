-- A turn is one instruction; what is known at the place is noted before it.
use Prim.Native.Nat.{◌-◌}
use lib.ListN.{length}
use Rattle.checker.proofs.Comings.{Toward}
use Rattle.checker.proofs.body.body.Given as goal

abbrev pub invariant-loop-kinds : goal.invariant-loop-kinds
invariant-loop-kinds l = Toward l.strip l.version l.locals l.takes l.place l.at l.kinds l.blocks l.bodies l.state l.at l.held l.words l.begun l.there

abbrev pub decreases-loop-kinds : goal.decreases-loop-kinds
decreases-loop-kinds l = length l.strip - l.at
