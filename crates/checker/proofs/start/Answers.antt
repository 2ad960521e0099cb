-- Each count is a byte.
use borrow.Author.Tests.{lt-ltb, le-ltb}
use lib.ListN.{length}
use Rattle.checker.specs.Walk.{start_of}
use Rattle.checker.proofs.start.Goals as goal

pub returns-then-strip-lt8 : goal.returns-then-strip-lt8
unfolding start_of
returns-then-strip-lt8 c = rw (lt-ltb (length c.args.strip.now) 8 c.if-strip-lt8.true)

pub returns : goal.returns
unfolding start_of
returns c = rw (le-ltb (length c.args.strip.now) 8 c.if-strip-lt8.false)
