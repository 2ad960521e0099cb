-- Each lane taken out, arm by arm.
use mathlib.Core.Path.{refl}
use Rattle.operation.specs.Shape.{i8x16, i16x8, i32x4, i64x2}
use Rattle.machine.proofs.Laws.Taken.{scalar-taken}
use Rattle.opcode.specs.Table.{vectors, vector_at, plain_at}
use Rattle.opcode.specs.Number.{row_of}
use Rattle.machine.proofs.Rows.{in-arm₂, past-arms₂}
use Rattle.machine.proofs.vector.single.extract.Code.{function}
use Rattle.machine.proofs.vector.single.extract.Goals as goal

pub returns-in-277 : goal.returns-in-277
unfolding row_of plain_at vector_at vectors
returns-in-277 c = in-arm₂ _ c.in-277.is refl (λ h. scalar-taken i8x16 _ h c.extract_lane_s.result c.extract_lane_s.ensures c.unwrap_or.ensures)

pub returns-in-278 : goal.returns-in-278
unfolding row_of plain_at vector_at vectors
returns-in-278 c = in-arm₂ _ c.in-278.is refl (λ h. scalar-taken i8x16 _ h c.extract_lane_u.result c.extract_lane_u.ensures c.unwrap_or-in-278.ensures)

pub returns-in-280 : goal.returns-in-280
unfolding row_of plain_at vector_at vectors
returns-in-280 c = in-arm₂ _ c.in-280.is refl (λ h. scalar-taken i16x8 _ h c.extract_lane_s-in-280.result c.extract_lane_s-in-280.ensures c.unwrap_or-in-280.ensures)

pub returns-in-281 : goal.returns-in-281
unfolding row_of plain_at vector_at vectors
returns-in-281 c = in-arm₂ _ c.in-281.is refl (λ h. scalar-taken i16x8 _ h c.extract_lane_u-in-281.result c.extract_lane_u-in-281.ensures c.unwrap_or-in-281.ensures)

pub returns-in-283 : goal.returns-in-283
unfolding row_of plain_at vector_at vectors
returns-in-283 c = in-arm₂ _ c.in-283.is refl (λ h. scalar-taken i32x4 _ h c.extract_lane.result c.extract_lane.ensures c.unwrap_or-in-283.ensures)

pub returns-in-285 : goal.returns-in-285
unfolding row_of plain_at vector_at vectors
returns-in-285 c = in-arm₂ _ c.in-285.is refl (λ h. scalar-taken i64x2 _ h c.extract_lane-in-285.result c.extract_lane-in-285.ensures c.unwrap_or-in-285.ensures)

pub returns-in_default : goal.returns-in_default
unfolding row_of plain_at vector_at vectors
returns-in_default c = past-arms₂ _ function.body c.args.id tt c.in_default.in_default-own.rest
