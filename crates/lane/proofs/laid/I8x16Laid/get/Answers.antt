-- A lane of 8 bits is a byte.
use mathlib.Core.Path.{sym}
use Rattle.operation.proofs.Laws.Lane.{lane_byte}
use Rattle.lane.proofs.laid.I8x16Laid.get.Goals as goal

pub returns : goal.returns
returns c = sym (lane_byte c.args.v.now c.args.i c.requires.1.bytes)
