-- Each test, arm by arm.
use mathlib.Core.Path.{refl}
use Rattle.operation.specs.Op.{test}
use Rattle.opcode.specs.Table.{vectors, vector_at, plain_at}
use Rattle.opcode.specs.Number.{row_of}
use Rattle.machine.proofs.Rows.{tests, on_one, past-arms}
use Rattle.machine.proofs.vector.unary.test.Code.{function}
use Rattle.machine.proofs.vector.unary.test.Goals as goal

pub returns-in-339 : goal.returns-in-339
unfolding row_of plain_at vector_at vectors
returns-in-339 c = on_one tests test c.in-339.is refl c.only.ensures c.any_true.ensures

pub returns-in-355 : goal.returns-in-355
unfolding row_of plain_at vector_at vectors
returns-in-355 c = on_one tests test c.in-355.is refl c.only-in-355.ensures c.all_true.ensures

pub returns-in-356 : goal.returns-in-356
unfolding row_of plain_at vector_at vectors
returns-in-356 c = on_one tests test c.in-356.is refl c.only-in-356.ensures c.bitmask.ensures

pub returns-in-387 : goal.returns-in-387
unfolding row_of plain_at vector_at vectors
returns-in-387 c = on_one tests test c.in-387.is refl c.only-in-387.ensures c.all_true-in-387.ensures

pub returns-in-388 : goal.returns-in-388
unfolding row_of plain_at vector_at vectors
returns-in-388 c = on_one tests test c.in-388.is refl c.only-in-388.ensures c.bitmask-in-388.ensures

pub returns-in-419 : goal.returns-in-419
unfolding row_of plain_at vector_at vectors
returns-in-419 c = on_one tests test c.in-419.is refl c.only-in-419.ensures c.all_true-in-419.ensures

pub returns-in-420 : goal.returns-in-420
unfolding row_of plain_at vector_at vectors
returns-in-420 c = on_one tests test c.in-420.is refl c.only-in-420.ensures c.bitmask-in-420.ensures

pub returns-in-451 : goal.returns-in-451
unfolding row_of plain_at vector_at vectors
returns-in-451 c = on_one tests test c.in-451.is refl c.only-in-451.ensures c.all_true-in-451.ensures

pub returns-in-452 : goal.returns-in-452
unfolding row_of plain_at vector_at vectors
returns-in-452 c = on_one tests test c.in-452.is refl c.only-in-452.ensures c.bitmask-in-452.ensures

pub returns-in_default : goal.returns-in_default
unfolding row_of plain_at vector_at vectors
returns-in_default c = past-arms tests _ function.body c.args.id tt c.in_default.in_default-own.rest
