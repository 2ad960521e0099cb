use mathlib.Core.Path.{refl, sym, ap, ◌∙◌}
use native.Mathlib.Omega.{arith}
use mir.Syntax.{Width}
use Rattle.scalar.specs.Scalar.{S, iextend}
use Rattle.operation.specs.Vector.{lane}
use Rattle.operation.proofs.Laws.Lane.{same-lane}
use Rattle.lane.proofs.Laws.Build.{as-many}
use Rattle.lane.proofs.Laws.Answers.{scalar-in}
use Rattle.lane.proofs.unpacked.Unpacked.extract_lane.Goals as goal

pub returns-then-k-LANES : goal.returns-then-k-LANES
returns-then-k-LANES g c =
    let w = g.Self.Lane.Lane.width in
    scalar-in _ c.args.i _ _ (omega (arith, as-many w _ g.met.Self.Shape.lanes_fill)) refl
    (c.scalar_of.ensures ∙ c.get.ensures ∙ same-lane w c.args.a.bytes c.args.i
    ∙ ap (λ (u : Width). iextend S w u (lane w c.args.a.bytes c.args.i)) (sym g.met.Self.Unpacked.unpack_is))
