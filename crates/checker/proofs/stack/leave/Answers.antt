use native.Mathlib.Omega.{arith}
use Rattle.checker.proofs.Leavings.{leaves-more, left-now, left_over}
use Rattle.checker.proofs.stack.leave.Goals as goal

pub returns-then-depth-eq-STACK : goal.returns-then-depth-eq-STACK
returns-then-depth-eq-STACK c =
    record {
      leaves =
          λ below outs h e. left_over c.loop-left.invariant below outs h e c.loop-left-test.true c.if-depth-eq-STACK.true;
      keeps = tt;
    }

pub loop-left-preserved : goal.loop-left-preserved
loop-left-preserved c = leaves-more c.loop-left.invariant c.loop-left-test.true (omega (arith, c.loop-left.invariant.most, c.if-depth-eq-STACK.false))

pub returns : goal.returns
returns c =
    record {
      leaves =
          λ below outs h e. left-now c.loop-left.invariant below outs h e c.loop-left-test.false;
      keeps = c.loop-left.invariant.kept;
    }
