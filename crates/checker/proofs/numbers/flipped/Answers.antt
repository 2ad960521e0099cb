use Rattle.checker.proofs.Digits.{turns_more, turns-all}
use Rattle.checker.proofs.numbers.flipped.Goals as goal

pub loop-left-preserved : goal.loop-left-preserved
loop-left-preserved c = turns_more c.loop-left.invariant c.loop-left-test.true

pub returns : goal.returns
returns c = turns-all c.loop-left.invariant c.loop-left-test.false
