-- The lowest lane.
use Rattle.machine.proofs.Laws.Numbers.{read_word}
use Rattle.machine.proofs.slot.word.Goals as goal

pub returns : goal.returns
returns c = read_word c.args.v.bytes c.extract_lane.result c.extract_lane.ensures c.unwrap_or.ensures
