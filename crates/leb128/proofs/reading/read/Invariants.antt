-- The reading loop keeps `Reading`; each way out of it is one answer of `number_at`.
use Prim.Native.Nat.{◌-◌}
use lib.ListN.{length}
use Rattle.leb128.proofs.ReadLoop.{Reading}
use Rattle.leb128.proofs.reading.read.Given as goal

abbrev pub invariant-loop-i : goal.invariant-loop-i
invariant-loop-i g l = Reading l.s l.at g.F.Format.SIGNED g.F.Format.width l.room l.scale l.value l.i

abbrev pub decreases-loop-i : goal.decreases-loop-i
decreases-loop-i g l = length l.s - l.i
