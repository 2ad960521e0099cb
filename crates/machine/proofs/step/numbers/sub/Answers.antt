-- Modulo 2^32, as scalar's.
use Rattle.scalar.proofs.Laws.Lanes.{isub_is}
use mir.Syntax.{w32}
use Rattle.machine.proofs.step.numbers.sub.Goals as goal

pub returns : goal.returns
returns c = cc (isub_is w32 c.word-a.result c.word-b.result c.word-a.type_inv c.word-b.type_inv)
