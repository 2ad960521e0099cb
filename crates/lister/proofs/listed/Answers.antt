-- Nothing is told of a strip that keeps every rule.
use Rattle.lister.proofs.Refusals.{none-valid}
use Rattle.lister.proofs.listed.Goals as goal

pub print-printed-requires : goal.print-printed-requires
print-printed-requires c = none-valid c.refusal.ensures.prints_refusal c.in-None.is
