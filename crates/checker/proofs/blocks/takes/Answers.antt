-- The strip's results, none of a loop, or those of the block's type.
use mathlib.Core.Path.{sym, ◌∙◌}
use native.Mathlib.Omega.{arith}
use Rattle.checker.proofs.Words.{type-small}
use Rattle.checker.proofs.Nests.{label-strip, label-block, takes_none, takes-results, at-strip}
use Rattle.checker.proofs.blocks.takes.Goals as goal

pub returns-then-n-nest : goal.returns-then-n-nest
returns-then-n-nest c = (omega (arith, c.requires.0), λ rs fs floor dead e few w. at-strip c.if-n-nest.true (label-strip w _ e few))

pub returns-then-loop_in : goal.returns-then-loop_in
returns-then-loop_in c = (
  omega arith,
  λ rs fs floor dead e few w.
      let d = label-block w c.args.n (omega (arith, c.if-n-nest.false, c.requires.1)) in
      takes_none d (sym (c.loop_in.ensures d.floor d.type d.target.loop d.dead
      (type-small d.type d.is-type) d.word-is) ∙ c.if-loop_in.true),
)

pub returns : goal.returns
returns c = (
  omega (arith, c.results_in.ensures.0),
  λ rs fs floor dead e few w.
      let d = label-block w c.args.n (omega (arith, c.if-n-nest.false, c.requires.1)) in
      takes-results d (sym (c.loop_in.ensures d.floor d.type d.target.loop d.dead
      (type-small d.type d.is-type) d.word-is) ∙ c.if-loop_in.false)
      (c.results_in.ensures.1 d.floor d.type d.target.loop d.dead d.is-type d.word-is),
)
