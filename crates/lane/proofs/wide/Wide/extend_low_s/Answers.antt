use borrow.Author.Rules.{rules}
use Rattle.scalar.specs.Scalar.{S, iextend}
use Rattle.lane.proofs.wide.Wide.extend_low_s.Goals as goal

pub returns : goal.returns
returns g c = rw g.met.Self.Wide.half_is (c.widen1.ensures (iextend S g.Self.Half.Lane.Lane.width g.Self.Lane.Lane.width) (λ x r p. search rules))
