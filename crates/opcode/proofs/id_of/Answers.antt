-- The first byte, or 256 and FD's number.
use borrow.Author.Tests.{eq-eqb, ne_eqb, lt-ltb, le-ltb}
use Rattle.opcode.specs.Table.{PREFIX}
use Rattle.opcode.proofs.id_of.Goals as goal

pub returns-then-first-ne-PREFIX : goal.returns-then-first-ne-PREFIX
returns-then-first-ne-PREFIX c = simp (ne_eqb _ PREFIX c.if-first-ne-PREFIX.true)

pub returns-then-number-lt256 : goal.returns-then-number-lt256
returns-then-number-lt256 c = simp (eq-eqb _ PREFIX c.if-first-ne-PREFIX.false, lt-ltb _ 256 c.if-number-lt256.true)

pub returns-else-number-lt256 : goal.returns-else-number-lt256
returns-else-number-lt256 c = simp (eq-eqb _ PREFIX c.if-first-ne-PREFIX.false, le-ltb _ 256 c.if-number-lt256.false)
