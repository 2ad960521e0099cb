-- Each load, arm by arm.
use mathlib.Core.Path.{refl}
use Rattle.opcode.specs.Table.{vectors, vector_at, plain_at}
use Rattle.opcode.specs.Number.{row_of}
use Rattle.machine.proofs.Rows.{loads, in-arm, past-arms}
use Rattle.machine.proofs.vector.memory.load.Code.{function}
use Rattle.machine.proofs.vector.memory.load.Goals as goal

pub returns-in-256 : goal.returns-in-256
unfolding row_of plain_at vector_at vectors
returns-in-256 c = in-arm loads _ c.in-256.is refl c.load.ensures

pub returns-in-257 : goal.returns-in-257
unfolding row_of plain_at vector_at vectors
returns-in-257 c = in-arm loads _ c.in-257.is refl c.load_extend_s.ensures

pub returns-in-258 : goal.returns-in-258
unfolding row_of plain_at vector_at vectors
returns-in-258 c = in-arm loads _ c.in-258.is refl c.load_extend_u.ensures

pub returns-in-259 : goal.returns-in-259
unfolding row_of plain_at vector_at vectors
returns-in-259 c = in-arm loads _ c.in-259.is refl c.load_extend_s-in-259.ensures

pub returns-in-260 : goal.returns-in-260
unfolding row_of plain_at vector_at vectors
returns-in-260 c = in-arm loads _ c.in-260.is refl c.load_extend_u-in-260.ensures

pub returns-in-261 : goal.returns-in-261
unfolding row_of plain_at vector_at vectors
returns-in-261 c = in-arm loads _ c.in-261.is refl c.load_extend_s-in-261.ensures

pub returns-in-262 : goal.returns-in-262
unfolding row_of plain_at vector_at vectors
returns-in-262 c = in-arm loads _ c.in-262.is refl c.load_extend_u-in-262.ensures

pub returns-in-263 : goal.returns-in-263
unfolding row_of plain_at vector_at vectors
returns-in-263 c = in-arm loads _ c.in-263.is refl c.load_splat.ensures

pub returns-in-264 : goal.returns-in-264
unfolding row_of plain_at vector_at vectors
returns-in-264 c = in-arm loads _ c.in-264.is refl c.load_splat-in-264.ensures

pub returns-in-265 : goal.returns-in-265
unfolding row_of plain_at vector_at vectors
returns-in-265 c = in-arm loads _ c.in-265.is refl c.load_splat-in-265.ensures

pub returns-in-266 : goal.returns-in-266
unfolding row_of plain_at vector_at vectors
returns-in-266 c = in-arm loads _ c.in-266.is refl c.load_splat-in-266.ensures

pub returns-in-348 : goal.returns-in-348
unfolding row_of plain_at vector_at vectors
returns-in-348 c = in-arm loads _ c.in-348.is refl c.load_zero.ensures

pub returns-in-349 : goal.returns-in-349
unfolding row_of plain_at vector_at vectors
returns-in-349 c = in-arm loads _ c.in-349.is refl c.load_zero-in-349.ensures

pub returns-in_default : goal.returns-in_default
unfolding row_of plain_at vector_at vectors
returns-in_default c = past-arms loads _ function.body c.args.id tt c.in_default.in_default-own.rest
