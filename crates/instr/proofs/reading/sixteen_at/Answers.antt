-- Sixteen bytes are there, or not.
use Prim.Native.Nat.{◌+◌}
use native.Mathlib.Omega.{arith}
use lib.ListN.{length}
use borrow.Author.Tests.{le-leb, lt-leb}
use Rattle.instr.specs.Decode.{sixteen_at}
use Rattle.instr.proofs.reading.sixteen_at.Goals as goal

pub returns-then-s-p-lt16-clause-is : goal.returns-then-s-p-lt16-clause-is
unfolding sixteen_at
returns-then-s-p-lt16-clause-is c = rw (c.short.ensures, lt-leb (c.args.p + 16) (length c.args.s.now) (omega (arith, c.if-s-p-lt16.true)))

pub returns-else-s-p-lt16-clause-is : goal.returns-else-s-p-lt16-clause-is
unfolding sixteen_at
returns-else-s-p-lt16-clause-is c = rw (le-leb (c.args.p + 16) (length c.args.s.now) (omega (arith, c.if-s-p-lt16.false)))
