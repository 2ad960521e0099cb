use borrow.Author.Rules.{rules}
use Rattle.scalar.specs.Scalar.{S, iextadd}
use Rattle.lane.proofs.paired.Paired.extadd_pairwise_s.Goals as goal

pub returns : goal.returns
returns g c = rw g.met.Self.Wide.half_is (c.pairs.ensures (iextadd S g.Self.Half.Lane.Lane.width g.Self.Lane.Lane.width) (λ x y r p. search rules))
