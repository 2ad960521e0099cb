-- The lane is x, the others stay.
use borrow.Author.Rules.{rules}
use Rattle.lane.proofs.Laws.Replace.{wrote-lanes}
use Rattle.lane.proofs.lanes.single.with.Goals as goal

pub returns : goal.returns
returns g c = wrote-lanes _ _ c.args.i _ c.args.a.bytes _ g.met.S.Shape.lanes_fill c.requires (search rules) c.put.ensures
