-- Each operation of the range, arm by arm.
use mathlib.Core.Path.{refl}
use Rattle.operation.specs.Op.{binary}
use Rattle.opcode.specs.Table.{vectors, vector_at, plain_at}
use Rattle.opcode.specs.Number.{row_of}
use Rattle.machine.proofs.Rows.{binaries, on-two, past-from}
use Rattle.machine.proofs.vector.binary.arith64.Code.{function}
use Rattle.machine.proofs.vector.binary.arith64.Goals as goal

pub returns-in-462 : goal.returns-in-462
unfolding row_of plain_at vector_at vectors
returns-in-462 c low = on-two binaries binary c.in-462.is refl c.left.ensures c.right.ensures c.add.ensures

pub returns-in-465 : goal.returns-in-465
unfolding row_of plain_at vector_at vectors
returns-in-465 c low = on-two binaries binary c.in-465.is refl c.left-in-465.ensures c.right-in-465.ensures c.sub.ensures

pub returns-in-469 : goal.returns-in-469
unfolding row_of plain_at vector_at vectors
returns-in-469 c low = on-two binaries binary c.in-469.is refl c.left-in-469.ensures c.right-in-469.ensures c.mul.ensures

pub returns-in-470 : goal.returns-in-470
unfolding row_of plain_at vector_at vectors
returns-in-470 c low = on-two binaries binary c.in-470.is refl c.left-in-470.ensures c.right-in-470.ensures c.eq.ensures

pub returns-in-471 : goal.returns-in-471
unfolding row_of plain_at vector_at vectors
returns-in-471 c low = on-two binaries binary c.in-471.is refl c.left-in-471.ensures c.right-in-471.ensures c.ne.ensures

pub returns-in-472 : goal.returns-in-472
unfolding row_of plain_at vector_at vectors
returns-in-472 c low = on-two binaries binary c.in-472.is refl c.left-in-472.ensures c.right-in-472.ensures c.lt_s.ensures

pub returns-in-473 : goal.returns-in-473
unfolding row_of plain_at vector_at vectors
returns-in-473 c low = on-two binaries binary c.in-473.is refl c.left-in-473.ensures c.right-in-473.ensures c.gt_s.ensures

pub returns-in-474 : goal.returns-in-474
unfolding row_of plain_at vector_at vectors
returns-in-474 c low = on-two binaries binary c.in-474.is refl c.left-in-474.ensures c.right-in-474.ensures c.le_s.ensures

pub returns-in-475 : goal.returns-in-475
unfolding row_of plain_at vector_at vectors
returns-in-475 c low = on-two binaries binary c.in-475.is refl c.left-in-475.ensures c.right-in-475.ensures c.ge_s.ensures

pub returns-in-476 : goal.returns-in-476
unfolding row_of plain_at vector_at vectors
returns-in-476 c low = on-two binaries binary c.in-476.is refl c.left-in-476.ensures c.right-in-476.ensures c.extmul_low_s.ensures

pub returns-in-477 : goal.returns-in-477
unfolding row_of plain_at vector_at vectors
returns-in-477 c low = on-two binaries binary c.in-477.is refl c.left-in-477.ensures c.right-in-477.ensures c.extmul_high_s.ensures

pub returns-in-478 : goal.returns-in-478
unfolding row_of plain_at vector_at vectors
returns-in-478 c low = on-two binaries binary c.in-478.is refl c.left-in-478.ensures c.right-in-478.ensures c.extmul_low_u.ensures

pub returns-in-479 : goal.returns-in-479
unfolding row_of plain_at vector_at vectors
returns-in-479 c low = on-two binaries binary c.in-479.is refl c.left-in-479.ensures c.right-in-479.ensures c.extmul_high_u.ensures

pub returns-in_default : goal.returns-in_default
unfolding row_of plain_at vector_at vectors
returns-in_default c low = past-from binaries _ function.body 0x1C0 c.args.id tt c.in_default.in_default-own.rest low
