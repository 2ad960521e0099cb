use borrow.Author.Tests.{le-leb, lt-leb}
use Rattle.opcode.proofs.is_known.Goals as goal

pub returns-then-version-ge1 : goal.returns-then-version-ge1
returns-then-version-ge1 c = rw (le-leb 1 _ c.if-version-ge1.true)

pub returns-else-version-ge1 : goal.returns-else-version-ge1
returns-else-version-ge1 c = rw (lt-leb 1 _ c.if-version-ge1.false)
