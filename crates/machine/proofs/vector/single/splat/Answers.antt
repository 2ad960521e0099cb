-- Each splat, arm by arm.
use mathlib.Core.Path.{refl, ◌∙◌}
use native.Mathlib.Omega.{arith}
use lib.Dec.{lit≤}
use Rattle.operation.specs.Shape.{i8x16, i16x8, i32x4}
use Rattle.machine.proofs.Laws.LowHalf.{splat-low}
use Rattle.opcode.specs.Table.{vectors, vector_at, plain_at}
use Rattle.opcode.specs.Number.{row_of}
use Rattle.machine.proofs.Rows.{splats, in-arm, past-arms}
use Rattle.machine.proofs.vector.single.splat.Code.{function}
use Rattle.machine.proofs.vector.single.splat.Goals as goal

pub overflow_cast-x : goal.overflow_cast-x
unfolding row_of plain_at vector_at vectors
overflow_cast-x c = omega arith

pub overflow_cast-x-in-272 : goal.overflow_cast-x-in-272
unfolding row_of plain_at vector_at vectors
overflow_cast-x-in-272 c = omega arith

pub overflow_cast-x-in-273 : goal.overflow_cast-x-in-273
unfolding row_of plain_at vector_at vectors
overflow_cast-x-in-273 c = omega arith

pub returns-in-271 : goal.returns-in-271
unfolding row_of plain_at vector_at vectors
returns-in-271 c = in-arm splats _ c.in-271.is refl (c.splat.ensures ∙ splat-low i8x16 (lit≤ tt) _)

pub returns-in-272 : goal.returns-in-272
unfolding row_of plain_at vector_at vectors
returns-in-272 c = in-arm splats _ c.in-272.is refl (c.splat-in-272.ensures ∙ splat-low i16x8 (lit≤ tt) _)

pub returns-in-273 : goal.returns-in-273
unfolding row_of plain_at vector_at vectors
returns-in-273 c = in-arm splats _ c.in-273.is refl (c.splat-in-273.ensures ∙ splat-low i32x4 (lit≤ tt) _)

pub returns-in-274 : goal.returns-in-274
unfolding row_of plain_at vector_at vectors
returns-in-274 c = in-arm splats _ c.in-274.is refl c.splat-in-274.ensures

pub returns-in_default : goal.returns-in_default
unfolding row_of plain_at vector_at vectors
returns-in_default c = past-arms splats _ function.body c.args.id tt c.in_default.in_default-own.rest
