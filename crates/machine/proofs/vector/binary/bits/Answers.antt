-- Each operation of the range, arm by arm.
use mathlib.Core.Path.{refl}
use Rattle.operation.specs.Op.{binary}
use Rattle.opcode.specs.Table.{vectors, vector_at, plain_at}
use Rattle.opcode.specs.Number.{row_of}
use Rattle.machine.proofs.Rows.{binaries, on-two, past-between}
use Rattle.machine.proofs.vector.binary.bits.Code.{function}
use Rattle.machine.proofs.vector.binary.bits.Goals as goal

pub returns-in-334 : goal.returns-in-334
unfolding row_of plain_at vector_at vectors
returns-in-334 c low high = on-two binaries binary c.in-334.is refl c.left.ensures c.right.ensures c.and.ensures

pub returns-in-335 : goal.returns-in-335
unfolding row_of plain_at vector_at vectors
returns-in-335 c low high = on-two binaries binary c.in-335.is refl c.left-in-335.ensures c.right-in-335.ensures c.andnot.ensures

pub returns-in-336 : goal.returns-in-336
unfolding row_of plain_at vector_at vectors
returns-in-336 c low high = on-two binaries binary c.in-336.is refl c.left-in-336.ensures c.right-in-336.ensures c.or.ensures

pub returns-in-337 : goal.returns-in-337
unfolding row_of plain_at vector_at vectors
returns-in-337 c low high = on-two binaries binary c.in-337.is refl c.left-in-337.ensures c.right-in-337.ensures c.xor.ensures

pub returns-in_default : goal.returns-in_default
unfolding row_of plain_at vector_at vectors
returns-in_default c low high = past-between binaries _ function.body 0x141 0x160 c.args.id tt c.in_default.in_default-own.rest low high
