-- The lowest lane.
use Rattle.machine.proofs.Laws.Numbers.{read-long}
use Rattle.machine.proofs.slot.long.Goals as goal

pub returns : goal.returns
returns c = read-long c.args.v.bytes c.extract_lane.result c.extract_lane.ensures c.unwrap_or.ensures
