-- Other results, or they are left on what is around the block.
use mathlib.Core.Path.{refl, sym, ◌∙◌}
use Rattle.checker.proofs.Unders.{other-told, same-told}
use Rattle.checker.proofs.Words.{type-small}
use Rattle.checker.proofs.Nests.{closing}
use Rattle.checker.proofs.Same.{as-told, err-told}
use Rattle.checker.proofs.Closings.{ends-here, results-number, closing-top, closing-held, closes-not, closes_by}
use Rattle.checker.proofs.turns.close.Goals as goal

pub returns-then-ne-clause-judges : goal.returns-then-ne-clause-judges
returns-then-ne-clause-judges c =
    λ i ls rs fs w.
    let k = closing w.nested c.requires.0 in
    let r = results-number w k c.results_in-results.result
    (c.results_in-results.ensures.1 k.outer-floor k.type k.top.loop k.outer-dead k.is-type k.word-is) in
    closes-not w k (c.under-base.ensures.under _ k.top.results k.top (closing-top w k) r.0)
    (other-told _ c.args.state.floor (sym c.ne.ensures ∙ c.if-ne.true))

pub returns-in_err-depth-clause-judges : goal.returns-in_err-depth-clause-judges
returns-in_err-depth-clause-judges c =
    λ i ls rs fs w.
    let k = closing w.nested c.requires.0 in
    let r = results-number w k c.results_in-results.result
    (c.results_in-results.ensures.1 k.outer-floor k.type k.top.loop k.outer-dead k.is-type k.word-is) in
    let u = c.under-base.ensures.under _ k.top.results k.top (closing-top w k) r.0 in
    as-told (err-told c.from_residual.ensures)
    (closes_by w k u (ends-here u (same-told _ c.args.state.floor (sym c.ne.ensures ∙ c.if-ne.false))) refl refl
    (c.in_err-depth.ensures.leaves _ k.top.results (closing-held w k) r.1))

pub returns-clause-judges : goal.returns-clause-judges
returns-clause-judges c =
    λ i ls rs fs w.
    let k = closing w.nested c.requires.0 in
    let r = results-number w k c.results_in-results.result
    (c.results_in-results.ensures.1 k.outer-floor k.type k.top.loop k.outer-dead k.is-type k.word-is) in
    let u = c.under-base.ensures.under _ k.top.results k.top (closing-top w k) r.0 in
    let small = type-small k.type k.is-type in
    closes_by w k u (ends-here u (same-told _ c.args.state.floor (sym c.ne.ensures ∙ c.if-ne.false)))
    (c.floor_in.ensures k.outer-floor k.type k.top.loop k.outer-dead small k.word-is)
    (c.dead_in.ensures k.outer-floor k.type k.top.loop k.outer-dead small k.word-is)
    (c.in_ok-depth.ensures.leaves _ k.top.results (closing-held w k) r.1)
