-- The lowest lane is the number, the other zero.
use Rattle.machine.proofs.Laws.Numbers.{write-number}
use Rattle.machine.proofs.slot.of_number.Goals as goal

pub returns : goal.returns
returns c = write-number c.args.x c.replace_lane.result _ c.ranges.x.fits c.replace_lane.ensures c.unwrap_or.ensures
