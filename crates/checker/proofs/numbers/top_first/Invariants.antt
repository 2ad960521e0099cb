-- The kinds from the first on, the last read in the lowest byte.
use Rattle.checker.proofs.Digits.{Reading}
use Rattle.checker.proofs.numbers.top_first.Given as goal

abbrev pub invariant-loop-kind : goal.invariant-loop-kind
invariant-loop-kind l = Reading l.strip l.from l.n l.kind-index l.all
