use borrow.Author.Rules.{rules}
use mathlib.Core.Path.{◌∙◌}
use lib.Bits.{bit_and}
use Rattle.lane.proofs.Laws.Bitwise.{and-bytes}
use Rattle.lane.proofs.V128.and.Goals as goal

pub returns : goal.returns
returns c = c.lanewise2.ensures bit_and (λ x y r p. search rules) ∙ and-bytes c.args.a.bytes c.args.b.bytes (search rules) (search rules)
