-- The slots before the j-th have their form.
use Rattle.image.proofs.Judging.{Upto}
use Rattle.image.proofs.slots.formed.Given as goal

abbrev pub invariant-loop-j : goal.invariant-loop-j
invariant-loop-j l = Upto l.kinds l.bytes l.j
