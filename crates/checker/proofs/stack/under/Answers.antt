use Rattle.checker.proofs.Operands.{pops, pops-on, any-there, none-there, other-there, all-popped}
use Rattle.checker.proofs.stack.under.Goals as goal

pub loop-left-init : goal.loop-left-init
loop-left-init c = let a = c.args in pops a.operands a.kinds.now a.depth a.floor a.dead c.requires.0

pub returns-then-dead : goal.returns-then-dead
returns-then-dead c = record { most = c.requires.0; under = λ outer ins f t e. any-there c.loop-left.invariant outer ins f t e c.loop-left-test.true c.if-base-floor.true c.if-dead.true }

pub returns-then-base-floor : goal.returns-then-base-floor
returns-then-base-floor c = record { most = tt; under = λ outer ins f t e. none-there c.loop-left.invariant outer ins f t e c.loop-left-test.true c.if-base-floor.true c.if-dead.false }

pub returns-then-kinds-base : goal.returns-then-kinds-base
returns-then-kinds-base c = record { most = tt; under = λ outer ins f t e. other-there c.loop-left.invariant outer ins f t e c.loop-left-test.true c.if-base-floor.false c.if-kinds-base.true }

pub loop-left-preserved : goal.loop-left-preserved
loop-left-preserved c = pops-on c.loop-left.invariant c.loop-left-test.true c.if-base-floor.false c.if-kinds-base.false

pub returns : goal.returns
returns c = record { most = c.loop-left.invariant.most; under = λ outer ins f t e. all-popped c.loop-left.invariant outer ins f t e c.loop-left-test.false }
