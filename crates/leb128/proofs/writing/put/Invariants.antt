-- The writing loop keeps `Writing`.
use Rattle.leb128.proofs.WriteLoops.{Writing}
use Rattle.leb128.proofs.writing.put.Given as goal

abbrev pub invariant-loop-i : goal.invariant-loop-i
invariant-loop-i l = Writing l.initial.out l.at l.z.negative l.z.n l.limit l.out l.rest l.i
