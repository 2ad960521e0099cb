use Rattle.leb128.proofs.WriteLoops.{counts-on, counted}
use Rattle.leb128.proofs.writing.count.Goals as goal

pub loop-left-preserved : goal.loop-left-preserved
loop-left-preserved c = counts-on c.loop-left.invariant c.loop-left-test.true

pub returns : goal.returns
returns c = counted c.loop-left.invariant c.loop-left-test.false
