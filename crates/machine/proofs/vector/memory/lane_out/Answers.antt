-- Each lane to memory, arm by arm.
use mathlib.Core.Path.{refl}
use Rattle.operation.specs.Shape.{i8x16, i16x8, i32x4, i64x2}
use Rattle.machine.proofs.Laws.Taken.{vector-taken}
use Rattle.opcode.specs.Table.{vectors, vector_at, plain_at}
use Rattle.opcode.specs.Number.{row_of}
use Rattle.machine.proofs.Rows.{lane_stores, in-arm, past-arms}
use Rattle.machine.proofs.vector.memory.lane_out.Code.{function}
use Rattle.machine.proofs.vector.memory.lane_out.Goals as goal

pub returns-in-344 : goal.returns-in-344
unfolding row_of plain_at vector_at vectors
returns-in-344 c = in-arm lane_stores _ c.in-344.is refl (λ h. vector-taken i8x16 _ h c.store_lane.result _ c.store_lane.ensures c.unwrap_or.ensures)

pub returns-in-345 : goal.returns-in-345
unfolding row_of plain_at vector_at vectors
returns-in-345 c = in-arm lane_stores _ c.in-345.is refl (λ h. vector-taken i16x8 _ h c.store_lane-in-345.result _ c.store_lane-in-345.ensures c.unwrap_or-in-345.ensures)

pub returns-in-346 : goal.returns-in-346
unfolding row_of plain_at vector_at vectors
returns-in-346 c = in-arm lane_stores _ c.in-346.is refl (λ h. vector-taken i32x4 _ h c.store_lane-in-346.result _ c.store_lane-in-346.ensures c.unwrap_or-in-346.ensures)

pub returns-in-347 : goal.returns-in-347
unfolding row_of plain_at vector_at vectors
returns-in-347 c = in-arm lane_stores _ c.in-347.is refl (λ h. vector-taken i64x2 _ h c.store_lane-in-347.result _ c.store_lane-in-347.ensures c.unwrap_or-in-347.ensures)

pub returns-in_default : goal.returns-in_default
unfolding row_of plain_at vector_at vectors
returns-in_default c = past-arms lane_stores _ function.body c.args.id tt c.in_default.in_default-own.rest
