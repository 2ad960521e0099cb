use borrow.Author.Rules.{rules}
use Rattle.scalar.specs.Scalar.{S, iextmul}
use Rattle.lane.proofs.wide.Wide.extmul_low_s.Goals as goal

pub returns : goal.returns
returns g c = rw g.met.Self.Wide.half_is (c.widen2.ensures (iextmul S g.Self.Half.Lane.Lane.width g.Self.Lane.Lane.width) (λ x y r p. search rules))
