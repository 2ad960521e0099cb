-- A loop, or the number of results: none or one.
use mathlib.Core.Path.{sym, ◌∙◌}
use Rattle.opcode.specs.BlockType.{block_results}
use Rattle.checker.proofs.Words.{type-small}
use Rattle.checker.proofs.Marks.{way-loop, way-none, way-one}
use Rattle.checker.proofs.blocks.way_in.Goals as goal

pub returns-then-loop_in : goal.returns-then-loop_in
returns-then-loop_in c =
    λ floor type loop dead is e. way-loop (block_results type)
    (sym (c.loop_in.ensures floor type loop dead (type-small type is) e) ∙ c.if-loop_in.true)

pub returns-then-results_in-eq0 : goal.returns-then-results_in-eq0
returns-then-results_in-eq0 c =
    λ floor type loop dead is e. way-none type is (sym (c.loop_in.ensures floor type loop dead (type-small type is)
    e) ∙ c.if-loop_in.false) (c.results_in.ensures.1 floor type loop dead is e) c.if-results_in-eq0.true

pub returns : goal.returns
returns c =
    λ floor type loop dead is e. way-one type is (sym (c.loop_in.ensures floor type loop dead (type-small type is) e)
    ∙ c.if-loop_in.false) (c.results_in.ensures.1 floor type loop dead is e) c.if-results_in-eq0.false
