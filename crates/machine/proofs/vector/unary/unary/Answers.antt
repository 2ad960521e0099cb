-- Each operation on one vector, arm by arm.
use mathlib.Core.Path.{refl}
use Rattle.operation.specs.Op.{unary}
use Rattle.opcode.specs.Table.{vectors, vector_at, plain_at}
use Rattle.opcode.specs.Number.{row_of}
use Rattle.machine.proofs.Rows.{unaries, on_one, past-arms}
use Rattle.machine.proofs.vector.unary.unary.Code.{function}
use Rattle.machine.proofs.vector.unary.unary.Goals as goal

pub returns-in-333 : goal.returns-in-333
unfolding row_of plain_at vector_at vectors
returns-in-333 c = on_one unaries unary c.in-333.is refl c.only.ensures c.not.ensures

pub returns-in-352 : goal.returns-in-352
unfolding row_of plain_at vector_at vectors
returns-in-352 c = on_one unaries unary c.in-352.is refl c.only-in-352.ensures c.abs.ensures

pub returns-in-353 : goal.returns-in-353
unfolding row_of plain_at vector_at vectors
returns-in-353 c = on_one unaries unary c.in-353.is refl c.only-in-353.ensures c.neg.ensures

pub returns-in-354 : goal.returns-in-354
unfolding row_of plain_at vector_at vectors
returns-in-354 c = on_one unaries unary c.in-354.is refl c.only-in-354.ensures c.popcnt.ensures

pub returns-in-380 : goal.returns-in-380
unfolding row_of plain_at vector_at vectors
returns-in-380 c = on_one unaries unary c.in-380.is refl c.only-in-380.ensures c.extadd_pairwise_s.ensures

pub returns-in-381 : goal.returns-in-381
unfolding row_of plain_at vector_at vectors
returns-in-381 c = on_one unaries unary c.in-381.is refl c.only-in-381.ensures c.extadd_pairwise_u.ensures

pub returns-in-382 : goal.returns-in-382
unfolding row_of plain_at vector_at vectors
returns-in-382 c = on_one unaries unary c.in-382.is refl c.only-in-382.ensures c.extadd_pairwise_s-in-382.ensures

pub returns-in-383 : goal.returns-in-383
unfolding row_of plain_at vector_at vectors
returns-in-383 c = on_one unaries unary c.in-383.is refl c.only-in-383.ensures c.extadd_pairwise_u-in-383.ensures

pub returns-in-384 : goal.returns-in-384
unfolding row_of plain_at vector_at vectors
returns-in-384 c = on_one unaries unary c.in-384.is refl c.only-in-384.ensures c.abs-in-384.ensures

pub returns-in-385 : goal.returns-in-385
unfolding row_of plain_at vector_at vectors
returns-in-385 c = on_one unaries unary c.in-385.is refl c.only-in-385.ensures c.neg-in-385.ensures

pub returns-in-391 : goal.returns-in-391
unfolding row_of plain_at vector_at vectors
returns-in-391 c = on_one unaries unary c.in-391.is refl c.only-in-391.ensures c.extend_low_s.ensures

pub returns-in-392 : goal.returns-in-392
unfolding row_of plain_at vector_at vectors
returns-in-392 c = on_one unaries unary c.in-392.is refl c.only-in-392.ensures c.extend_high_s.ensures

pub returns-in-393 : goal.returns-in-393
unfolding row_of plain_at vector_at vectors
returns-in-393 c = on_one unaries unary c.in-393.is refl c.only-in-393.ensures c.extend_low_u.ensures

pub returns-in-394 : goal.returns-in-394
unfolding row_of plain_at vector_at vectors
returns-in-394 c = on_one unaries unary c.in-394.is refl c.only-in-394.ensures c.extend_high_u.ensures

pub returns-in-416 : goal.returns-in-416
unfolding row_of plain_at vector_at vectors
returns-in-416 c = on_one unaries unary c.in-416.is refl c.only-in-416.ensures c.abs-in-416.ensures

pub returns-in-417 : goal.returns-in-417
unfolding row_of plain_at vector_at vectors
returns-in-417 c = on_one unaries unary c.in-417.is refl c.only-in-417.ensures c.neg-in-417.ensures

pub returns-in-423 : goal.returns-in-423
unfolding row_of plain_at vector_at vectors
returns-in-423 c = on_one unaries unary c.in-423.is refl c.only-in-423.ensures c.extend_low_s-in-423.ensures

pub returns-in-424 : goal.returns-in-424
unfolding row_of plain_at vector_at vectors
returns-in-424 c = on_one unaries unary c.in-424.is refl c.only-in-424.ensures c.extend_high_s-in-424.ensures

pub returns-in-425 : goal.returns-in-425
unfolding row_of plain_at vector_at vectors
returns-in-425 c = on_one unaries unary c.in-425.is refl c.only-in-425.ensures c.extend_low_u-in-425.ensures

pub returns-in-426 : goal.returns-in-426
unfolding row_of plain_at vector_at vectors
returns-in-426 c = on_one unaries unary c.in-426.is refl c.only-in-426.ensures c.extend_high_u-in-426.ensures

pub returns-in-448 : goal.returns-in-448
unfolding row_of plain_at vector_at vectors
returns-in-448 c = on_one unaries unary c.in-448.is refl c.only-in-448.ensures c.abs-in-448.ensures

pub returns-in-449 : goal.returns-in-449
unfolding row_of plain_at vector_at vectors
returns-in-449 c = on_one unaries unary c.in-449.is refl c.only-in-449.ensures c.neg-in-449.ensures

pub returns-in-455 : goal.returns-in-455
unfolding row_of plain_at vector_at vectors
returns-in-455 c = on_one unaries unary c.in-455.is refl c.only-in-455.ensures c.extend_low_s-in-455.ensures

pub returns-in-456 : goal.returns-in-456
unfolding row_of plain_at vector_at vectors
returns-in-456 c = on_one unaries unary c.in-456.is refl c.only-in-456.ensures c.extend_high_s-in-456.ensures

pub returns-in-457 : goal.returns-in-457
unfolding row_of plain_at vector_at vectors
returns-in-457 c = on_one unaries unary c.in-457.is refl c.only-in-457.ensures c.extend_low_u-in-457.ensures

pub returns-in-458 : goal.returns-in-458
unfolding row_of plain_at vector_at vectors
returns-in-458 c = on_one unaries unary c.in-458.is refl c.only-in-458.ensures c.extend_high_u-in-458.ensures

pub returns-in_default : goal.returns-in_default
unfolding row_of plain_at vector_at vectors
returns-in_default c = past-arms unaries _ function.body c.args.id tt c.in_default.in_default-own.rest
