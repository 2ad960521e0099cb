-- Each operation of the range, arm by arm.
use mathlib.Core.Path.{refl}
use native.Mathlib.Omega.{arith}
use Rattle.operation.specs.Op.{binary}
use Rattle.opcode.specs.Table.{vectors, vector_at, plain_at}
use Rattle.opcode.specs.Number.{row_of}
use Rattle.machine.proofs.Rows.{binaries, on-two, past-between}
use Rattle.machine.proofs.vector.binary.compare.Code.{function}
use Rattle.machine.proofs.vector.binary.compare.Goals as goal

pub returns-in-270 : goal.returns-in-270
unfolding row_of plain_at vector_at vectors
returns-in-270 c high = on-two binaries binary c.in-270.is refl c.left.ensures c.right.ensures c.swizzle.ensures

pub returns-in-291 : goal.returns-in-291
unfolding row_of plain_at vector_at vectors
returns-in-291 c high = on-two binaries binary c.in-291.is refl c.left-in-291.ensures c.right-in-291.ensures c.eq.ensures

pub returns-in-292 : goal.returns-in-292
unfolding row_of plain_at vector_at vectors
returns-in-292 c high = on-two binaries binary c.in-292.is refl c.left-in-292.ensures c.right-in-292.ensures c.ne.ensures

pub returns-in-293 : goal.returns-in-293
unfolding row_of plain_at vector_at vectors
returns-in-293 c high = on-two binaries binary c.in-293.is refl c.left-in-293.ensures c.right-in-293.ensures c.lt_s.ensures

pub returns-in-294 : goal.returns-in-294
unfolding row_of plain_at vector_at vectors
returns-in-294 c high = on-two binaries binary c.in-294.is refl c.left-in-294.ensures c.right-in-294.ensures c.lt_u.ensures

pub returns-in-295 : goal.returns-in-295
unfolding row_of plain_at vector_at vectors
returns-in-295 c high = on-two binaries binary c.in-295.is refl c.left-in-295.ensures c.right-in-295.ensures c.gt_s.ensures

pub returns-in-296 : goal.returns-in-296
unfolding row_of plain_at vector_at vectors
returns-in-296 c high = on-two binaries binary c.in-296.is refl c.left-in-296.ensures c.right-in-296.ensures c.gt_u.ensures

pub returns-in-297 : goal.returns-in-297
unfolding row_of plain_at vector_at vectors
returns-in-297 c high = on-two binaries binary c.in-297.is refl c.left-in-297.ensures c.right-in-297.ensures c.le_s.ensures

pub returns-in-298 : goal.returns-in-298
unfolding row_of plain_at vector_at vectors
returns-in-298 c high = on-two binaries binary c.in-298.is refl c.left-in-298.ensures c.right-in-298.ensures c.le_u.ensures

pub returns-in-299 : goal.returns-in-299
unfolding row_of plain_at vector_at vectors
returns-in-299 c high = on-two binaries binary c.in-299.is refl c.left-in-299.ensures c.right-in-299.ensures c.ge_s.ensures

pub returns-in-300 : goal.returns-in-300
unfolding row_of plain_at vector_at vectors
returns-in-300 c high = on-two binaries binary c.in-300.is refl c.left-in-300.ensures c.right-in-300.ensures c.ge_u.ensures

pub returns-in-301 : goal.returns-in-301
unfolding row_of plain_at vector_at vectors
returns-in-301 c high = on-two binaries binary c.in-301.is refl c.left-in-301.ensures c.right-in-301.ensures c.eq-in-301.ensures

pub returns-in-302 : goal.returns-in-302
unfolding row_of plain_at vector_at vectors
returns-in-302 c high = on-two binaries binary c.in-302.is refl c.left-in-302.ensures c.right-in-302.ensures c.ne-in-302.ensures

pub returns-in-303 : goal.returns-in-303
unfolding row_of plain_at vector_at vectors
returns-in-303 c high = on-two binaries binary c.in-303.is refl c.left-in-303.ensures c.right-in-303.ensures c.lt_s-in-303.ensures

pub returns-in-304 : goal.returns-in-304
unfolding row_of plain_at vector_at vectors
returns-in-304 c high = on-two binaries binary c.in-304.is refl c.left-in-304.ensures c.right-in-304.ensures c.lt_u-in-304.ensures

pub returns-in-305 : goal.returns-in-305
unfolding row_of plain_at vector_at vectors
returns-in-305 c high = on-two binaries binary c.in-305.is refl c.left-in-305.ensures c.right-in-305.ensures c.gt_s-in-305.ensures

pub returns-in-306 : goal.returns-in-306
unfolding row_of plain_at vector_at vectors
returns-in-306 c high = on-two binaries binary c.in-306.is refl c.left-in-306.ensures c.right-in-306.ensures c.gt_u-in-306.ensures

pub returns-in-307 : goal.returns-in-307
unfolding row_of plain_at vector_at vectors
returns-in-307 c high = on-two binaries binary c.in-307.is refl c.left-in-307.ensures c.right-in-307.ensures c.le_s-in-307.ensures

pub returns-in-308 : goal.returns-in-308
unfolding row_of plain_at vector_at vectors
returns-in-308 c high = on-two binaries binary c.in-308.is refl c.left-in-308.ensures c.right-in-308.ensures c.le_u-in-308.ensures

pub returns-in-309 : goal.returns-in-309
unfolding row_of plain_at vector_at vectors
returns-in-309 c high = on-two binaries binary c.in-309.is refl c.left-in-309.ensures c.right-in-309.ensures c.ge_s-in-309.ensures

pub returns-in-310 : goal.returns-in-310
unfolding row_of plain_at vector_at vectors
returns-in-310 c high = on-two binaries binary c.in-310.is refl c.left-in-310.ensures c.right-in-310.ensures c.ge_u-in-310.ensures

pub returns-in-311 : goal.returns-in-311
unfolding row_of plain_at vector_at vectors
returns-in-311 c high = on-two binaries binary c.in-311.is refl c.left-in-311.ensures c.right-in-311.ensures c.eq-in-311.ensures

pub returns-in-312 : goal.returns-in-312
unfolding row_of plain_at vector_at vectors
returns-in-312 c high = on-two binaries binary c.in-312.is refl c.left-in-312.ensures c.right-in-312.ensures c.ne-in-312.ensures

pub returns-in-313 : goal.returns-in-313
unfolding row_of plain_at vector_at vectors
returns-in-313 c high = on-two binaries binary c.in-313.is refl c.left-in-313.ensures c.right-in-313.ensures c.lt_s-in-313.ensures

pub returns-in-314 : goal.returns-in-314
unfolding row_of plain_at vector_at vectors
returns-in-314 c high = on-two binaries binary c.in-314.is refl c.left-in-314.ensures c.right-in-314.ensures c.lt_u-in-314.ensures

pub returns-in-315 : goal.returns-in-315
unfolding row_of plain_at vector_at vectors
returns-in-315 c high = on-two binaries binary c.in-315.is refl c.left-in-315.ensures c.right-in-315.ensures c.gt_s-in-315.ensures

pub returns-in-316 : goal.returns-in-316
unfolding row_of plain_at vector_at vectors
returns-in-316 c high = on-two binaries binary c.in-316.is refl c.left-in-316.ensures c.right-in-316.ensures c.gt_u-in-316.ensures

pub returns-in-317 : goal.returns-in-317
unfolding row_of plain_at vector_at vectors
returns-in-317 c high = on-two binaries binary c.in-317.is refl c.left-in-317.ensures c.right-in-317.ensures c.le_s-in-317.ensures

pub returns-in-318 : goal.returns-in-318
unfolding row_of plain_at vector_at vectors
returns-in-318 c high = on-two binaries binary c.in-318.is refl c.left-in-318.ensures c.right-in-318.ensures c.le_u-in-318.ensures

pub returns-in-319 : goal.returns-in-319
unfolding row_of plain_at vector_at vectors
returns-in-319 c high = on-two binaries binary c.in-319.is refl c.left-in-319.ensures c.right-in-319.ensures c.ge_s-in-319.ensures

pub returns-in-320 : goal.returns-in-320
unfolding row_of plain_at vector_at vectors
returns-in-320 c high = on-two binaries binary c.in-320.is refl c.left-in-320.ensures c.right-in-320.ensures c.ge_u-in-320.ensures

pub returns-in_default : goal.returns-in_default
unfolding row_of plain_at vector_at vectors
returns-in_default c high = past-between binaries _ function.body 0 0x141 c.args.id tt c.in_default.in_default-own.rest (omega arith) high
