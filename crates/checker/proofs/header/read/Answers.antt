-- The header, and the counts that stand in it.
use Rattle.checker.proofs.Counted.{counted, opening}
use Rattle.checker.proofs.header.read.Goals as goal

pub returns : goal.returns
returns c = opening (counted c.in_ok-header.ensures.1) c.top_first-takes.ensures
