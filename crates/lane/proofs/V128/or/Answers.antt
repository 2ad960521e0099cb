use borrow.Author.Rules.{rules}
use mathlib.Core.Path.{◌∙◌}
use lib.Bits.{bit_or}
use Rattle.lane.proofs.Laws.Bitwise.{or-bytes}
use Rattle.lane.proofs.V128.or.Goals as goal

pub returns : goal.returns
returns c = c.lanewise2.ensures bit_or (λ x y r p. search rules) ∙ or-bytes c.args.a.bytes c.args.b.bytes (search rules) (search rules)
