-- One lane to one number.
use Rattle.machine.proofs.step.vectors.extract.Goals as goal

pub returns : goal.returns
returns c q w row h = cc (c.extract.ensures q w row h)
