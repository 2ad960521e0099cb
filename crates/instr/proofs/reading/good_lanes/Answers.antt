use native.Mathlib.Omega.{arith}
use Rattle.instr.proofs.Sixteens.{passes}
use Rattle.instr.proofs.reading.good_lanes.Goals as goal

pub loop-k-preserved : goal.loop-k-preserved
loop-k-preserved c = passes c.loop-k.invariant c.if-k-ge16.false (omega (arith, c.if-s-p.false)) c.if-s-p-ge32.false
