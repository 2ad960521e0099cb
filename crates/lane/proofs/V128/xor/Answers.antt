use borrow.Author.Rules.{rules}
use mathlib.Core.Path.{◌∙◌}
use lib.Bits.{bit_xor}
use Rattle.lane.proofs.Laws.Bitwise.{xor-bytes}
use Rattle.lane.proofs.V128.xor.Goals as goal

pub returns : goal.returns
returns c = c.lanewise2.ensures bit_xor (λ x y r p. search rules) ∙ xor-bytes c.args.a.bytes c.args.b.bytes (search rules) (search rules)
