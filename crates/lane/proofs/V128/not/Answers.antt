use borrow.Author.Rules.{rules}
use mathlib.Core.Path.{◌∙◌}
use Prim.Native.Nat.{◌-◌, ◌^◌}
use Rattle.lane.proofs.Laws.Bitwise.{not-bytes}
use Rattle.lane.proofs.V128.not.Goals as goal

pub returns : goal.returns
returns c = c.lanewise1.ensures (λ x. 2 ^ 8 - 1 - x) (λ x r p. search rules) ∙ not-bytes c.args.a.bytes (search rules)
