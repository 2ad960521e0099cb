-- Each lane put in, arm by arm.
use mathlib.Core.Path.{refl, ◌∙◌}
use native.Mathlib.Omega.{arith}
use lib.Dec.{lit≤}
use Rattle.operation.specs.Shape.{i8x16, i16x8, i32x4, i64x2}
use Rattle.machine.proofs.Laws.Taken.{vector-taken}
use Rattle.machine.proofs.Laws.LowHalf.{replaced-low}
use Rattle.opcode.specs.Table.{vectors, vector_at, plain_at}
use Rattle.opcode.specs.Number.{row_of}
use Rattle.machine.proofs.Rows.{replaces, in-arm, past-arms}
use Rattle.machine.proofs.vector.single.replace.Code.{function}
use Rattle.machine.proofs.vector.single.replace.Goals as goal

pub overflow_cast-x : goal.overflow_cast-x
unfolding row_of plain_at vector_at vectors
overflow_cast-x c = omega arith

pub overflow_cast-x-in-282 : goal.overflow_cast-x-in-282
unfolding row_of plain_at vector_at vectors
overflow_cast-x-in-282 c = omega arith

pub overflow_cast-x-in-284 : goal.overflow_cast-x-in-284
unfolding row_of plain_at vector_at vectors
overflow_cast-x-in-284 c = omega arith

pub returns-in-279 : goal.returns-in-279
unfolding row_of plain_at vector_at vectors
returns-in-279 c = in-arm replaces _ c.in-279.is refl (λ h. vector-taken i8x16 _ h c.replace_lane.result _ c.replace_lane.ensures c.unwrap_or.ensures ∙ replaced-low i8x16 (lit≤ tt) _ _ _)

pub returns-in-282 : goal.returns-in-282
unfolding row_of plain_at vector_at vectors
returns-in-282 c = in-arm replaces _ c.in-282.is refl (λ h. vector-taken i16x8 _ h c.replace_lane-in-282.result _ c.replace_lane-in-282.ensures c.unwrap_or-in-282.ensures ∙ replaced-low i16x8 (lit≤ tt) _ _ _)

pub returns-in-284 : goal.returns-in-284
unfolding row_of plain_at vector_at vectors
returns-in-284 c = in-arm replaces _ c.in-284.is refl (λ h. vector-taken i32x4 _ h c.replace_lane-in-284.result _ c.replace_lane-in-284.ensures c.unwrap_or-in-284.ensures ∙ replaced-low i32x4 (lit≤ tt) _ _ _)

pub returns-in-286 : goal.returns-in-286
unfolding row_of plain_at vector_at vectors
returns-in-286 c = in-arm replaces _ c.in-286.is refl (λ h. vector-taken i64x2 _ h c.replace_lane-in-286.result _ c.replace_lane-in-286.ensures c.unwrap_or-in-286.ensures)

pub returns-in_default : goal.returns-in_default
unfolding row_of plain_at vector_at vectors
returns-in_default c = past-arms replaces _ function.body c.args.id tt c.in_default.in_default-own.rest
