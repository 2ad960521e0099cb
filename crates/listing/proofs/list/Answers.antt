-- A breach is passed on; a valid strip is listed.
use Rattle.rules.proofs.Strips.{says-breach}
use Rattle.listing.proofs.Answers.{is-refused}
use Rattle.listing.proofs.list.Goals as goal

pub returns-then-a-ne-DONE : goal.returns-then-a-ne-DONE
returns-then-a-ne-DONE c = is-refused (says-breach c.check-a.ensures.says c.if-a-ne-DONE.true) c.refused.ensures
