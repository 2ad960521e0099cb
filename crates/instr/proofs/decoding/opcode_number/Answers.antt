-- FD's number is read, or there is none.
use native.Mathlib.Nat.{add-zero}
use borrow.Author.Tests.{eq-eqb, ne_eqb}
use Rattle.instr.specs.Decode.{number_item, opcode_number}
use Rattle.instr.proofs.decoding.opcode_number.Goals as goal

pub returns-then-first-eq-PREFIX-clause-is : goal.returns-then-first-eq-PREFIX-clause-is
unfolding opcode_number number_item
returns-then-first-eq-PREFIX-clause-is c = rw (eq-eqb _ _ c.if-first-eq-PREFIX.true) c.number_at.ensures.is

pub returns-else-first-eq-PREFIX-clause-is : goal.returns-else-first-eq-PREFIX-clause-is
unfolding opcode_number
returns-else-first-eq-PREFIX-clause-is c = rw (ne_eqb _ _ c.if-first-eq-PREFIX.false, add-zero)
