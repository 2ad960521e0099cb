use borrow.Author.Rules.{rules}
use mathlib.Core.Path.{◌≡◌, ◌∙◌}
use Rattle.operation.specs.Shape.{lanes}
use Rattle.lane.proofs.Laws.Build.{as-many}
use Rattle.scalar.specs.Scalar.{U, iextmul}
use Rattle.lane.proofs.wide.Wide.extmul_high_u.Goals as goal

pub returns : goal.returns
returns g c =
    let e : c.LANES.result ≡ lanes g.Self.Lane.Lane.width = c.LANES.ensures ∙ as-many _ _ g.met.Self.Shape.lanes_fill in
    rw g.met.Self.Wide.half_is (rw e at (c.widen2.ensures (iextmul U g.Self.Half.Lane.Lane.width g.Self.Lane.Lane.width) (λ x y r p. search rules)))
