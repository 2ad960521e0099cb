-- Each shift, arm by arm.
use mathlib.Core.Path.{refl}
use Rattle.operation.specs.Op.{shift}
use Rattle.opcode.specs.Table.{vectors, vector_at, plain_at}
use Rattle.opcode.specs.Number.{row_of}
use Rattle.machine.proofs.Rows.{shifts, on-two, past-arms}
use Rattle.machine.proofs.vector.unary.shift.Code.{function}
use Rattle.machine.proofs.vector.unary.shift.Goals as goal

pub returns-in-363 : goal.returns-in-363
unfolding row_of plain_at vector_at vectors
returns-in-363 c = on-two shifts shift c.in-363.is refl c.left.ensures c.count.ensures c.shl.ensures

pub returns-in-364 : goal.returns-in-364
unfolding row_of plain_at vector_at vectors
returns-in-364 c = on-two shifts shift c.in-364.is refl c.left-in-364.ensures c.count-in-364.ensures c.shr_s.ensures

pub returns-in-365 : goal.returns-in-365
unfolding row_of plain_at vector_at vectors
returns-in-365 c = on-two shifts shift c.in-365.is refl c.left-in-365.ensures c.count-in-365.ensures c.shr_u.ensures

pub returns-in-395 : goal.returns-in-395
unfolding row_of plain_at vector_at vectors
returns-in-395 c = on-two shifts shift c.in-395.is refl c.left-in-395.ensures c.count-in-395.ensures c.shl-in-395.ensures

pub returns-in-396 : goal.returns-in-396
unfolding row_of plain_at vector_at vectors
returns-in-396 c = on-two shifts shift c.in-396.is refl c.left-in-396.ensures c.count-in-396.ensures c.shr_s-in-396.ensures

pub returns-in-397 : goal.returns-in-397
unfolding row_of plain_at vector_at vectors
returns-in-397 c = on-two shifts shift c.in-397.is refl c.left-in-397.ensures c.count-in-397.ensures c.shr_u-in-397.ensures

pub returns-in-427 : goal.returns-in-427
unfolding row_of plain_at vector_at vectors
returns-in-427 c = on-two shifts shift c.in-427.is refl c.left-in-427.ensures c.count-in-427.ensures c.shl-in-427.ensures

pub returns-in-428 : goal.returns-in-428
unfolding row_of plain_at vector_at vectors
returns-in-428 c = on-two shifts shift c.in-428.is refl c.left-in-428.ensures c.count-in-428.ensures c.shr_s-in-428.ensures

pub returns-in-429 : goal.returns-in-429
unfolding row_of plain_at vector_at vectors
returns-in-429 c = on-two shifts shift c.in-429.is refl c.left-in-429.ensures c.count-in-429.ensures c.shr_u-in-429.ensures

pub returns-in-459 : goal.returns-in-459
unfolding row_of plain_at vector_at vectors
returns-in-459 c = on-two shifts shift c.in-459.is refl c.left-in-459.ensures c.count-in-459.ensures c.shl-in-459.ensures

pub returns-in-460 : goal.returns-in-460
unfolding row_of plain_at vector_at vectors
returns-in-460 c = on-two shifts shift c.in-460.is refl c.left-in-460.ensures c.count-in-460.ensures c.shr_s-in-460.ensures

pub returns-in-461 : goal.returns-in-461
unfolding row_of plain_at vector_at vectors
returns-in-461 c = on-two shifts shift c.in-461.is refl c.left-in-461.ensures c.count-in-461.ensures c.shr_u-in-461.ensures

pub returns-in_default : goal.returns-in_default
unfolding row_of plain_at vector_at vectors
returns-in_default c = past-arms shifts _ function.body c.args.id tt c.in_default.in_default-own.rest
