-- The parts, one after the other.
use native.Mathlib.Omega.{arith}
use Rattle.listing.proofs.Chain.{class-is, after-name, is-line}
use Rattle.listing.proofs.line.line.Goals as goal

pub immediates-after_all-requires : goal.immediates-after_all-requires
immediates-after_all-requires c = (
  class-is c.requires c.immediates.ensures,
  omega (
    arith,
    after-name c.args.at c.requires c.place-after_place.ensures c.stack-after_stack.ensures c.push-before_name.ensures c.name-after_name.ensures,
    c.requires.most,
    c.requires.enough,
  ),
)

pub returns : goal.returns
returns c =
    is-line c.args.at c.requires c.place-after_place.ensures c.stack-after_stack.ensures c.push-before_name.ensures c.name-after_name.ensures
    c.immediates-after_all.ensures c.push.ensures
