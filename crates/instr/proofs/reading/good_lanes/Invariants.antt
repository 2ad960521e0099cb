-- The loop keeps `Passing`; each way out of it is `GoodUpTo`.
use Prim.Native.Nat.{◌-◌}
use Rattle.instr.proofs.Sixteens.{Passing}
use Rattle.instr.proofs.reading.good_lanes.Given as goal

abbrev pub invariant-loop-k : goal.invariant-loop-k
invariant-loop-k l = Passing l.s l.p l.k

abbrev pub decreases-loop-k : goal.decreases-loop-k
decreases-loop-k l = 16 - l.k
