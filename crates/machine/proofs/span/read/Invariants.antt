-- The first k bytes are copied.
use mathlib.Core.Path.{◌≡◌}
use lib.ListN.{replicate, length, drop}
use lib.Seq.{paste}
use Rattle.machine.proofs.span.read.Given as goal

abbrev pub invariant-loop-k : goal.invariant-loop-k
invariant-loop-k l = (length l.b ≡ 16) × (l.b ≡ paste (replicate 16 0) 0 (drop l.at l.s) l.k)
