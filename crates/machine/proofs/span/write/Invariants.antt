-- The first k bytes are copied.
use mathlib.Core.Path.{◌≡◌}
use lib.ListN.{length}
use lib.Seq.{paste}
use Rattle.machine.proofs.span.write.Given as goal

abbrev pub invariant-loop-k : goal.invariant-loop-k
invariant-loop-k l = (length l.s ≡ length l.initial.s) × (length l.b ≡ 16) × (l.s ≡ paste l.initial.s l.at l.b l.k)
