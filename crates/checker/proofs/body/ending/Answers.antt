-- The results, and then the end of the file.
use mathlib.Core.Path.{sym, ◌∙◌}
use native.Mathlib.Omega.{arith}
use Rattle.checker.proofs.Fronts.{broken}
use Rattle.checker.proofs.Unders.{other-told, same-told}
use Rattle.checker.proofs.Endings.{end-inside, other-results, trails, passes}
use Rattle.checker.proofs.body.ending.Goals as goal

pub returns-then-ne : goal.returns-then-ne
returns-then-ne c = broken c.refuse.ensures (other-results c.requires c.under.ensures.under (other-told _ 0 (sym c.ne.ensures ∙ c.if-ne.true)))

pub overflow_add-at : goal.overflow_add-at
overflow_add-at c = omega (arith, end-inside c.requires)

pub returns-then-at-strip : goal.returns-then-at-strip
returns-then-at-strip c =
    broken c.refuse-then-at-strip.ensures
    (trails c.requires c.under.ensures.under (same-told _ 0 (sym c.ne.ensures ∙ c.if-ne.false)) (omega (arith, c.if-at-strip.true)))

pub returns : goal.returns
returns c = passes c.requires c.under.ensures.under (same-told _ 0 (sym c.ne.ensures ∙ c.if-ne.false)) (omega (arith, c.if-at-strip.false))
