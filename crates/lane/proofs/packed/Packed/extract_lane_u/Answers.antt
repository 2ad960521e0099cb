use mathlib.Core.Path.{refl, ◌∙◌}
use native.Mathlib.Omega.{arith}
use Rattle.operation.specs.Op.{unpack}
use Rattle.operation.proofs.Laws.Lane.{unsigned-lane}
use Rattle.lane.proofs.Laws.Build.{as-many}
use Rattle.lane.proofs.Laws.Answers.{scalar-in, fits-scalar}
use Rattle.lane.proofs.packed.Packed.extract_lane_u.Goals as goal

pub returns-then-k-LANES : goal.returns-then-k-LANES
returns-then-k-LANES g c =
    let w = g.Self.Lane.Lane.width in
    scalar-in _ c.args.i _ _ (omega (arith, as-many w _ g.met.Self.Shape.lanes_fill)) refl
    (c.word_u.ensures ∙ c.get.ensures ∙ unsigned-lane w (unpack w) c.args.a.bytes c.args.i (fits-scalar w))
