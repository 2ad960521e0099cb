use borrow.Author.Rules.{rules}
use mathlib.Core.Path.{◌∙◌}
use Prim.Native.Nat.{◌-◌, ◌^◌}
use lib.Bits.{bit_and}
use Rattle.lane.proofs.Laws.Bitwise.{andnot-bytes}
use Rattle.lane.proofs.V128.andnot.Goals as goal

pub returns : goal.returns
returns c = c.lanewise2.ensures (λ x y. bit_and x (2 ^ 8 - 1 - y)) (λ x y r p. search rules) ∙ andnot-bytes c.args.a.bytes c.args.b.bytes (search rules) (search rules)
