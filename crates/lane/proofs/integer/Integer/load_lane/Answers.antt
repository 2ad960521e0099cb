use mathlib.Core.Path.{refl, ◌∙◌}
use native.Mathlib.Omega.{arith}
use borrow.Author.Tests.{lt-ltb}
use Rattle.operation.proofs.Laws.Lane.{put-wrapped, wrapped-lane}
use Rattle.lane.proofs.Laws.Build.{as-many}
use Rattle.lane.proofs.Laws.Answers.{vector-in}
use Rattle.lane.proofs.integer.Integer.load_lane.Goals as goal

pub returns-then-k-LANES : goal.returns-then-k-LANES
returns-then-k-LANES g c =
    let w = g.Self.Lane.Lane.width in
    vector-in _ _ _ (lt-ltb c.args.i _ (omega (arith, as-many w _ g.met.Self.Shape.lanes_fill))) refl
    (c.with.ensures ∙ put-wrapped w c.args.a.bytes c.args.i _ (c.get.ensures ∙ wrapped-lane w c.args.m.bytes 0))
