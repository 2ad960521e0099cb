-- The mask is on top.
use Rattle.machine.proofs.step.vectors.bitselect.Goals as goal

pub returns : goal.returns
returns c = cc
