-- Each operation of the range, arm by arm.
use mathlib.Core.Path.{refl}
use Rattle.operation.specs.Op.{binary}
use Rattle.opcode.specs.Table.{vectors, vector_at, plain_at}
use Rattle.opcode.specs.Number.{row_of}
use Rattle.machine.proofs.Rows.{binaries, on-two, past-between}
use Rattle.machine.proofs.vector.binary.arith32.Code.{function}
use Rattle.machine.proofs.vector.binary.arith32.Goals as goal

pub returns-in-430 : goal.returns-in-430
unfolding row_of plain_at vector_at vectors
returns-in-430 c low high = on-two binaries binary c.in-430.is refl c.left.ensures c.right.ensures c.add.ensures

pub returns-in-433 : goal.returns-in-433
unfolding row_of plain_at vector_at vectors
returns-in-433 c low high = on-two binaries binary c.in-433.is refl c.left-in-433.ensures c.right-in-433.ensures c.sub.ensures

pub returns-in-437 : goal.returns-in-437
unfolding row_of plain_at vector_at vectors
returns-in-437 c low high = on-two binaries binary c.in-437.is refl c.left-in-437.ensures c.right-in-437.ensures c.mul.ensures

pub returns-in-438 : goal.returns-in-438
unfolding row_of plain_at vector_at vectors
returns-in-438 c low high = on-two binaries binary c.in-438.is refl c.left-in-438.ensures c.right-in-438.ensures c.min_s.ensures

pub returns-in-439 : goal.returns-in-439
unfolding row_of plain_at vector_at vectors
returns-in-439 c low high = on-two binaries binary c.in-439.is refl c.left-in-439.ensures c.right-in-439.ensures c.min_u.ensures

pub returns-in-440 : goal.returns-in-440
unfolding row_of plain_at vector_at vectors
returns-in-440 c low high = on-two binaries binary c.in-440.is refl c.left-in-440.ensures c.right-in-440.ensures c.max_s.ensures

pub returns-in-441 : goal.returns-in-441
unfolding row_of plain_at vector_at vectors
returns-in-441 c low high = on-two binaries binary c.in-441.is refl c.left-in-441.ensures c.right-in-441.ensures c.max_u.ensures

pub returns-in-442 : goal.returns-in-442
unfolding row_of plain_at vector_at vectors
returns-in-442 c low high = on-two binaries binary c.in-442.is refl c.left-in-442.ensures c.right-in-442.ensures c.dot_i16x8_s.ensures

pub returns-in-444 : goal.returns-in-444
unfolding row_of plain_at vector_at vectors
returns-in-444 c low high = on-two binaries binary c.in-444.is refl c.left-in-444.ensures c.right-in-444.ensures c.extmul_low_s.ensures

pub returns-in-445 : goal.returns-in-445
unfolding row_of plain_at vector_at vectors
returns-in-445 c low high = on-two binaries binary c.in-445.is refl c.left-in-445.ensures c.right-in-445.ensures c.extmul_high_s.ensures

pub returns-in-446 : goal.returns-in-446
unfolding row_of plain_at vector_at vectors
returns-in-446 c low high = on-two binaries binary c.in-446.is refl c.left-in-446.ensures c.right-in-446.ensures c.extmul_low_u.ensures

pub returns-in-447 : goal.returns-in-447
unfolding row_of plain_at vector_at vectors
returns-in-447 c low high = on-two binaries binary c.in-447.is refl c.left-in-447.ensures c.right-in-447.ensures c.extmul_high_u.ensures

pub returns-in_default : goal.returns-in_default
unfolding row_of plain_at vector_at vectors
returns-in_default c low high = past-between binaries _ function.body 0x1A0 0x1C0 c.args.id tt c.in_default.in_default-own.rest low high
