-- Each operation of the range, arm by arm.
use mathlib.Core.Path.{refl}
use Rattle.operation.specs.Op.{binary}
use Rattle.opcode.specs.Table.{vectors, vector_at, plain_at}
use Rattle.opcode.specs.Number.{row_of}
use Rattle.machine.proofs.Rows.{binaries, on-two, past-between}
use Rattle.machine.proofs.vector.binary.arith8.Code.{function}
use Rattle.machine.proofs.vector.binary.arith8.Goals as goal

pub returns-in-357 : goal.returns-in-357
unfolding row_of plain_at vector_at vectors
returns-in-357 c low high = on-two binaries binary c.in-357.is refl c.left.ensures c.right.ensures c.narrow_s.ensures

pub returns-in-358 : goal.returns-in-358
unfolding row_of plain_at vector_at vectors
returns-in-358 c low high = on-two binaries binary c.in-358.is refl c.left-in-358.ensures c.right-in-358.ensures c.narrow_u.ensures

pub returns-in-366 : goal.returns-in-366
unfolding row_of plain_at vector_at vectors
returns-in-366 c low high = on-two binaries binary c.in-366.is refl c.left-in-366.ensures c.right-in-366.ensures c.add.ensures

pub returns-in-367 : goal.returns-in-367
unfolding row_of plain_at vector_at vectors
returns-in-367 c low high = on-two binaries binary c.in-367.is refl c.left-in-367.ensures c.right-in-367.ensures c.add_sat_s.ensures

pub returns-in-368 : goal.returns-in-368
unfolding row_of plain_at vector_at vectors
returns-in-368 c low high = on-two binaries binary c.in-368.is refl c.left-in-368.ensures c.right-in-368.ensures c.add_sat_u.ensures

pub returns-in-369 : goal.returns-in-369
unfolding row_of plain_at vector_at vectors
returns-in-369 c low high = on-two binaries binary c.in-369.is refl c.left-in-369.ensures c.right-in-369.ensures c.sub.ensures

pub returns-in-370 : goal.returns-in-370
unfolding row_of plain_at vector_at vectors
returns-in-370 c low high = on-two binaries binary c.in-370.is refl c.left-in-370.ensures c.right-in-370.ensures c.sub_sat_s.ensures

pub returns-in-371 : goal.returns-in-371
unfolding row_of plain_at vector_at vectors
returns-in-371 c low high = on-two binaries binary c.in-371.is refl c.left-in-371.ensures c.right-in-371.ensures c.sub_sat_u.ensures

pub returns-in-374 : goal.returns-in-374
unfolding row_of plain_at vector_at vectors
returns-in-374 c low high = on-two binaries binary c.in-374.is refl c.left-in-374.ensures c.right-in-374.ensures c.min_s.ensures

pub returns-in-375 : goal.returns-in-375
unfolding row_of plain_at vector_at vectors
returns-in-375 c low high = on-two binaries binary c.in-375.is refl c.left-in-375.ensures c.right-in-375.ensures c.min_u.ensures

pub returns-in-376 : goal.returns-in-376
unfolding row_of plain_at vector_at vectors
returns-in-376 c low high = on-two binaries binary c.in-376.is refl c.left-in-376.ensures c.right-in-376.ensures c.max_s.ensures

pub returns-in-377 : goal.returns-in-377
unfolding row_of plain_at vector_at vectors
returns-in-377 c low high = on-two binaries binary c.in-377.is refl c.left-in-377.ensures c.right-in-377.ensures c.max_u.ensures

pub returns-in-379 : goal.returns-in-379
unfolding row_of plain_at vector_at vectors
returns-in-379 c low high = on-two binaries binary c.in-379.is refl c.left-in-379.ensures c.right-in-379.ensures c.avgr_u.ensures

pub returns-in_default : goal.returns-in_default
unfolding row_of plain_at vector_at vectors
returns-in_default c low high = past-between binaries _ function.body 0x160 0x180 c.args.id tt c.in_default.in_default-own.rest low high
