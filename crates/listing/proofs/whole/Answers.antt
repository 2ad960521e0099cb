-- Counted, then no room or all written.
use Rattle.listing.proofs.Answers.{too_small, all-written}
use Rattle.listing.proofs.whole.Goals as goal

pub returns-then-out-len : goal.returns-then-out-len
returns-then-out-len c = too_small c.pass-len.ensures c.if-out-len.true c.refused.ensures

pub returns : goal.returns
returns c = all-written c.pass-len.ensures c.if-out-len.false c.pass.ensures
