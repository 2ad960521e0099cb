use borrow.Author.Rules.{rules}
use Rattle.scalar.specs.Scalar.{U, inarrow}
use Rattle.lane.proofs.packed.Packed.narrow_u.Goals as goal

pub returns : goal.returns
returns g c = rw g.met.Self.Packed.twice_is (c.narrow.ensures (inarrow U g.Self.Lane.Wide.Lane.width g.Self.Lane.Lane.width) (λ x r p. search rules))
