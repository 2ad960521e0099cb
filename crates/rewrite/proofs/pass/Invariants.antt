-- A turn reads one instruction, which is written or only counted.
use Prim.Native.Nat.{◌-◌}
use lib.ListN.{length}
use Rattle.rewrite.proofs.Passing.{Passing}
use Rattle.rewrite.proofs.pass.Given as goal

abbrev pub invariant-loop-at : goal.invariant-loop-at
invariant-loop-at l = Passing l.version l.strip l.start l.writing l.initial.out l.out l.at l.to

abbrev pub decreases-loop-at : goal.decreases-loop-at
decreases-loop-at l = length l.strip - l.at
