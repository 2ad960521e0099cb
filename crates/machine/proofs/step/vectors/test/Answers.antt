-- One vector to one number.
use Rattle.machine.proofs.step.vectors.test.Goals as goal

pub returns : goal.returns
returns c o row = cc (c.test.ensures o row)
