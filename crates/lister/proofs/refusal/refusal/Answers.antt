-- DONE is a strip that keeps every rule; of any other its first breach is told.
use Rattle.rules.proofs.Strips.{says-valid, says-breach}
use Rattle.lister.specs.Refusal.{kept}
use Rattle.lister.proofs.Refusals.{is-broken}
use Rattle.lister.proofs.refusal.refusal.Goals as goal

pub returns-then-a-eq-DONE-clause-prints_refusal : goal.returns-then-a-eq-DONE-clause-prints_refusal
returns-then-a-eq-DONE-clause-prints_refusal c = kept (says-valid c.check-a.ensures.says c.if-a-eq-DONE.true)

pub returns-clause-prints_refusal : goal.returns-clause-prints_refusal
returns-clause-prints_refusal c =
    is-broken (says-breach c.check-a.ensures.says c.if-a-eq-DONE.false) c.line.ensures.upper_bound.1 c.requires c.line.ensures.appends
