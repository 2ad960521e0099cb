-- Each operation of the range, arm by arm.
use mathlib.Core.Path.{refl}
use Rattle.operation.specs.Op.{binary}
use Rattle.opcode.specs.Table.{vectors, vector_at, plain_at}
use Rattle.opcode.specs.Number.{row_of}
use Rattle.machine.proofs.Rows.{binaries, on-two, past-between}
use Rattle.machine.proofs.vector.binary.arith16.Code.{function}
use Rattle.machine.proofs.vector.binary.arith16.Goals as goal

pub returns-in-386 : goal.returns-in-386
unfolding row_of plain_at vector_at vectors
returns-in-386 c low high = on-two binaries binary c.in-386.is refl c.left.ensures c.right.ensures c.q15mulr_sat_s.ensures

pub returns-in-389 : goal.returns-in-389
unfolding row_of plain_at vector_at vectors
returns-in-389 c low high = on-two binaries binary c.in-389.is refl c.left-in-389.ensures c.right-in-389.ensures c.narrow_s.ensures

pub returns-in-390 : goal.returns-in-390
unfolding row_of plain_at vector_at vectors
returns-in-390 c low high = on-two binaries binary c.in-390.is refl c.left-in-390.ensures c.right-in-390.ensures c.narrow_u.ensures

pub returns-in-398 : goal.returns-in-398
unfolding row_of plain_at vector_at vectors
returns-in-398 c low high = on-two binaries binary c.in-398.is refl c.left-in-398.ensures c.right-in-398.ensures c.add.ensures

pub returns-in-399 : goal.returns-in-399
unfolding row_of plain_at vector_at vectors
returns-in-399 c low high = on-two binaries binary c.in-399.is refl c.left-in-399.ensures c.right-in-399.ensures c.add_sat_s.ensures

pub returns-in-400 : goal.returns-in-400
unfolding row_of plain_at vector_at vectors
returns-in-400 c low high = on-two binaries binary c.in-400.is refl c.left-in-400.ensures c.right-in-400.ensures c.add_sat_u.ensures

pub returns-in-401 : goal.returns-in-401
unfolding row_of plain_at vector_at vectors
returns-in-401 c low high = on-two binaries binary c.in-401.is refl c.left-in-401.ensures c.right-in-401.ensures c.sub.ensures

pub returns-in-402 : goal.returns-in-402
unfolding row_of plain_at vector_at vectors
returns-in-402 c low high = on-two binaries binary c.in-402.is refl c.left-in-402.ensures c.right-in-402.ensures c.sub_sat_s.ensures

pub returns-in-403 : goal.returns-in-403
unfolding row_of plain_at vector_at vectors
returns-in-403 c low high = on-two binaries binary c.in-403.is refl c.left-in-403.ensures c.right-in-403.ensures c.sub_sat_u.ensures

pub returns-in-405 : goal.returns-in-405
unfolding row_of plain_at vector_at vectors
returns-in-405 c low high = on-two binaries binary c.in-405.is refl c.left-in-405.ensures c.right-in-405.ensures c.mul.ensures

pub returns-in-406 : goal.returns-in-406
unfolding row_of plain_at vector_at vectors
returns-in-406 c low high = on-two binaries binary c.in-406.is refl c.left-in-406.ensures c.right-in-406.ensures c.min_s.ensures

pub returns-in-407 : goal.returns-in-407
unfolding row_of plain_at vector_at vectors
returns-in-407 c low high = on-two binaries binary c.in-407.is refl c.left-in-407.ensures c.right-in-407.ensures c.min_u.ensures

pub returns-in-408 : goal.returns-in-408
unfolding row_of plain_at vector_at vectors
returns-in-408 c low high = on-two binaries binary c.in-408.is refl c.left-in-408.ensures c.right-in-408.ensures c.max_s.ensures

pub returns-in-409 : goal.returns-in-409
unfolding row_of plain_at vector_at vectors
returns-in-409 c low high = on-two binaries binary c.in-409.is refl c.left-in-409.ensures c.right-in-409.ensures c.max_u.ensures

pub returns-in-411 : goal.returns-in-411
unfolding row_of plain_at vector_at vectors
returns-in-411 c low high = on-two binaries binary c.in-411.is refl c.left-in-411.ensures c.right-in-411.ensures c.avgr_u.ensures

pub returns-in-412 : goal.returns-in-412
unfolding row_of plain_at vector_at vectors
returns-in-412 c low high = on-two binaries binary c.in-412.is refl c.left-in-412.ensures c.right-in-412.ensures c.extmul_low_s.ensures

pub returns-in-413 : goal.returns-in-413
unfolding row_of plain_at vector_at vectors
returns-in-413 c low high = on-two binaries binary c.in-413.is refl c.left-in-413.ensures c.right-in-413.ensures c.extmul_high_s.ensures

pub returns-in-414 : goal.returns-in-414
unfolding row_of plain_at vector_at vectors
returns-in-414 c low high = on-two binaries binary c.in-414.is refl c.left-in-414.ensures c.right-in-414.ensures c.extmul_low_u.ensures

pub returns-in-415 : goal.returns-in-415
unfolding row_of plain_at vector_at vectors
returns-in-415 c low high = on-two binaries binary c.in-415.is refl c.left-in-415.ensures c.right-in-415.ensures c.extmul_high_u.ensures

pub returns-in_default : goal.returns-in_default
unfolding row_of plain_at vector_at vectors
returns-in_default c low high = past-between binaries _ function.body 0x180 0x1A0 c.args.id tt c.in_default.in_default-own.rest low high
