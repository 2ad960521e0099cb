-- Each lane from memory, arm by arm.
use mathlib.Core.Path.{refl}
use Rattle.operation.specs.Shape.{i8x16, i16x8, i32x4, i64x2}
use Rattle.machine.proofs.Laws.Taken.{vector-taken}
use Rattle.opcode.specs.Table.{vectors, vector_at, plain_at}
use Rattle.opcode.specs.Number.{row_of}
use Rattle.machine.proofs.Rows.{lane_loads, in-arm, past-arms}
use Rattle.machine.proofs.vector.memory.lane_in.Code.{function}
use Rattle.machine.proofs.vector.memory.lane_in.Goals as goal

pub returns-in-340 : goal.returns-in-340
unfolding row_of plain_at vector_at vectors
returns-in-340 c = in-arm lane_loads _ c.in-340.is refl (λ h. vector-taken i8x16 _ h c.load_lane.result _ c.load_lane.ensures c.unwrap_or.ensures)

pub returns-in-341 : goal.returns-in-341
unfolding row_of plain_at vector_at vectors
returns-in-341 c = in-arm lane_loads _ c.in-341.is refl (λ h. vector-taken i16x8 _ h c.load_lane-in-341.result _ c.load_lane-in-341.ensures c.unwrap_or-in-341.ensures)

pub returns-in-342 : goal.returns-in-342
unfolding row_of plain_at vector_at vectors
returns-in-342 c = in-arm lane_loads _ c.in-342.is refl (λ h. vector-taken i32x4 _ h c.load_lane-in-342.result _ c.load_lane-in-342.ensures c.unwrap_or-in-342.ensures)

pub returns-in-343 : goal.returns-in-343
unfolding row_of plain_at vector_at vectors
returns-in-343 c = in-arm lane_loads _ c.in-343.is refl (λ h. vector-taken i64x2 _ h c.load_lane-in-343.result _ c.load_lane-in-343.ensures c.unwrap_or-in-343.ensures)

pub returns-in_default : goal.returns-in_default
unfolding row_of plain_at vector_at vectors
returns-in_default c = past-arms lane_loads _ function.body c.args.id tt c.in_default.in_default-own.rest
