use mathlib.Core.Path.{◌∙◌, sym, ap}
use native.Mathlib.Omega.{arith}
use Rattle.operation.specs.Vector.{lane}
use Rattle.lane.proofs.Laws.Either.{lane-of-first, lane-of-second}
use Rattle.lane.proofs.lanes.narrowing.either.Goals as goal

pub returns-then-i-LANES : goal.returns-then-i-LANES
returns-then-i-LANES g c = c.get.ensures ∙ sym (lane-of-first _ _ c.args.a.now c.args.b.now c.args.i g.met.S.Shape.lanes_fill c.requires.1 (omega arith))

pub returns-else-i-LANES : goal.returns-else-i-LANES
returns-else-i-LANES g c =
    c.get-else-i-LANES.ensures ∙ ap (lane g.S.Lane.Lane.width c.args.b.now) (omega arith)
    ∙ sym (lane-of-second _ _ c.args.a.now c.args.b.now c.args.i g.met.S.Shape.lanes_fill c.requires.1 (omega arith))
