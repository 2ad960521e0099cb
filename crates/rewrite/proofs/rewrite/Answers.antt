-- A breach is passed on; a valid strip is shortened.
use Rattle.rules.proofs.Strips.{says-valid, says-breach}
use Rattle.rewrite.proofs.Room.{is-refused}
use Rattle.rewrite.proofs.rewrite.Goals as goal

pub returns-then-a-ne-DONE : goal.returns-then-a-ne-DONE
returns-then-a-ne-DONE c = is-refused (says-breach c.check-a.ensures.says c.if-a-ne-DONE.true) c.refused.ensures

pub shorten-requires : goal.shorten-requires
shorten-requires c = says-valid c.check-a.ensures.says c.if-a-ne-DONE.false
