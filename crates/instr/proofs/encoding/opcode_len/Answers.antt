-- One byte, or FD and its number.
use borrow.Author.Rules.{rules}
use mathlib.Core.Bool.{false}
use mathlib.Core.Path.{ap}
use native.Mathlib.Omega.{arith}
use lib.ListN.{length}
use Rattle.leb128.proofs.Bounds.{form-32}
use Rattle.instr.proofs.Sets.{opcode-vector}
use Rattle.instr.proofs.encoding.opcode_len.Goals as goal

pub overflow_add-result : goal.overflow_add-result
overflow_add-result c = omega (arith, c.len.ensures.answer, form-32 false c.args.number (search rules))

pub returns-then-first-eq-PREFIX : goal.returns-then-first-eq-PREFIX
returns-then-first-eq-PREFIX c = (
  omega (arith, ap length (opcode-vector c.args.first c.args.number c.if-first-eq-PREFIX.true), c.len.ensures.answer),
  omega
      (arith, c.len.ensures.answer, form-32 false c.args.number (search rules)),
)
