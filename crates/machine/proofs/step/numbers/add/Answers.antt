-- Modulo 2^32, as scalar's.
use Rattle.machine.proofs.step.numbers.add.Goals as goal

pub returns : goal.returns
returns c = cc
