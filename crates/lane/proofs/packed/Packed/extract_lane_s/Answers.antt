use mathlib.Core.Path.{refl, sym, ap, ◌∙◌}
use native.Mathlib.Omega.{arith}
use mir.Syntax.{Width, w32}
use Rattle.scalar.specs.Scalar.{S, iextend}
use Rattle.operation.specs.Vector.{lane}
use Rattle.lane.proofs.Laws.Build.{as-many}
use Rattle.lane.proofs.Laws.Answers.{scalar-in}
use Rattle.lane.proofs.packed.Packed.extract_lane_s.Goals as goal

pub returns-then-k-LANES : goal.returns-then-k-LANES
returns-then-k-LANES g c =
    let w = g.Self.Lane.Lane.width in
    scalar-in _ c.args.i _ _ (omega (arith, as-many w _ g.met.Self.Shape.lanes_fill)) refl
    (c.word_s.ensures ∙ ap (iextend S w w32) c.get.ensures
    ∙ ap (λ (u : Width). iextend S w u (lane w c.args.a.bytes c.args.i)) (sym g.met.Self.Packed.unpack_is))
