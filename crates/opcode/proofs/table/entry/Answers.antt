-- The entry of each id, arm by arm.
use mathlib.Core.Path.{ap}
use Prim.Native.Nat.{ℕ}
use mir.Syntax.{Body}
use Rattle.opcode.specs.Table.{vectors, vector_at, plain_at}
use Rattle.opcode.specs.Number.{row_of}
use Rattle.opcode.specs.Entry.{entry_of}
use Rattle.opcode.proofs.Rows.{row-beyond}
use Rattle.opcode.proofs.Arms.{in-arm, past-arms}
use Rattle.opcode.proofs.table.entry.Code.{function}
use Rattle.opcode.proofs.table.entry.Goals as goal

abbrev f : ℕ → ℕ
f id = entry_of (row_of id)

abbrev body : Body
body = function.body

pub returns-in-2 : goal.returns-in-2
unfolding row_of plain_at vector_at vectors
returns-in-2 c = in-arm f body 0 tt c.in-2.is

pub returns-in-3 : goal.returns-in-3
unfolding row_of plain_at vector_at vectors
returns-in-3 c = in-arm f body 1 tt c.in-3.is

pub returns-in-11 : goal.returns-in-11
unfolding row_of plain_at vector_at vectors
returns-in-11 c = in-arm f body 2 tt c.in-11.is

pub returns-in-12 : goal.returns-in-12
unfolding row_of plain_at vector_at vectors
returns-in-12 c = in-arm f body 3 tt c.in-12.is

pub returns-in-13 : goal.returns-in-13
unfolding row_of plain_at vector_at vectors
returns-in-13 c = in-arm f body 4 tt c.in-13.is

pub returns-in-26 : goal.returns-in-26
unfolding row_of plain_at vector_at vectors
returns-in-26 c = in-arm f body 5 tt c.in-26.is

pub returns-in-32 : goal.returns-in-32
unfolding row_of plain_at vector_at vectors
returns-in-32 c = in-arm f body 6 tt c.in-32.is

pub returns-in-33 : goal.returns-in-33
unfolding row_of plain_at vector_at vectors
returns-in-33 c = in-arm f body 7 tt c.in-33.is

pub returns-in-34 : goal.returns-in-34
unfolding row_of plain_at vector_at vectors
returns-in-34 c = in-arm f body 8 tt c.in-34.is

pub returns-in-65 : goal.returns-in-65
unfolding row_of plain_at vector_at vectors
returns-in-65 c = in-arm f body 9 tt c.in-65.is

pub returns-in-66 : goal.returns-in-66
unfolding row_of plain_at vector_at vectors
returns-in-66 c = in-arm f body 10 tt c.in-66.is

pub returns-in-69 : goal.returns-in-69
unfolding row_of plain_at vector_at vectors
returns-in-69 c = in-arm f body 11 tt c.in-69.is

pub returns-in-73 : goal.returns-in-73
unfolding row_of plain_at vector_at vectors
returns-in-73 c = in-arm f body 12 tt c.in-73.is

pub returns-in-106 : goal.returns-in-106
unfolding row_of plain_at vector_at vectors
returns-in-106 c = in-arm f body 13 tt c.in-106.is

pub returns-in-107 : goal.returns-in-107
unfolding row_of plain_at vector_at vectors
returns-in-107 c = in-arm f body 14 tt c.in-107.is

pub returns-in-263 : goal.returns-in-263
unfolding row_of plain_at vector_at vectors
returns-in-263 c = in-arm f body 15 tt c.in-263.is

pub returns-in-264 : goal.returns-in-264
unfolding row_of plain_at vector_at vectors
returns-in-264 c = in-arm f body 16 tt c.in-264.is

pub returns-in-348 : goal.returns-in-348
unfolding row_of plain_at vector_at vectors
returns-in-348 c = in-arm f body 17 tt c.in-348.is

pub returns-in-265 : goal.returns-in-265
unfolding row_of plain_at vector_at vectors
returns-in-265 c = in-arm f body 18 tt c.in-265.is

pub returns-in-258 : goal.returns-in-258
unfolding row_of plain_at vector_at vectors
returns-in-258 c = in-arm f body 19 tt c.in-258.is

pub returns-in-257 : goal.returns-in-257
unfolding row_of plain_at vector_at vectors
returns-in-257 c = in-arm f body 20 tt c.in-257.is

pub returns-in-256 : goal.returns-in-256
unfolding row_of plain_at vector_at vectors
returns-in-256 c = in-arm f body 21 tt c.in-256.is

pub returns-in-340 : goal.returns-in-340
unfolding row_of plain_at vector_at vectors
returns-in-340 c = in-arm f body 22 tt c.in-340.is

pub returns-in-341 : goal.returns-in-341
unfolding row_of plain_at vector_at vectors
returns-in-341 c = in-arm f body 23 tt c.in-341.is

pub returns-in-342 : goal.returns-in-342
unfolding row_of plain_at vector_at vectors
returns-in-342 c = in-arm f body 24 tt c.in-342.is

pub returns-in-343 : goal.returns-in-343
unfolding row_of plain_at vector_at vectors
returns-in-343 c = in-arm f body 25 tt c.in-343.is

pub returns-in-267 : goal.returns-in-267
unfolding row_of plain_at vector_at vectors
returns-in-267 c = in-arm f body 26 tt c.in-267.is

pub returns-in-344 : goal.returns-in-344
unfolding row_of plain_at vector_at vectors
returns-in-344 c = in-arm f body 27 tt c.in-344.is

pub returns-in-345 : goal.returns-in-345
unfolding row_of plain_at vector_at vectors
returns-in-345 c = in-arm f body 28 tt c.in-345.is

pub returns-in-346 : goal.returns-in-346
unfolding row_of plain_at vector_at vectors
returns-in-346 c = in-arm f body 29 tt c.in-346.is

pub returns-in-347 : goal.returns-in-347
unfolding row_of plain_at vector_at vectors
returns-in-347 c = in-arm f body 30 tt c.in-347.is

pub returns-in-268 : goal.returns-in-268
unfolding row_of plain_at vector_at vectors
returns-in-268 c = in-arm f body 31 tt c.in-268.is

pub returns-in-269 : goal.returns-in-269
unfolding row_of plain_at vector_at vectors
returns-in-269 c = in-arm f body 32 tt c.in-269.is

pub returns-in-272 : goal.returns-in-272
unfolding row_of plain_at vector_at vectors
returns-in-272 c = in-arm f body 33 tt c.in-272.is

pub returns-in-271 : goal.returns-in-271
unfolding row_of plain_at vector_at vectors
returns-in-271 c = in-arm f body 34 tt c.in-271.is

pub returns-in-274 : goal.returns-in-274
unfolding row_of plain_at vector_at vectors
returns-in-274 c = in-arm f body 35 tt c.in-274.is

pub returns-in-278 : goal.returns-in-278
unfolding row_of plain_at vector_at vectors
returns-in-278 c = in-arm f body 36 tt c.in-278.is

pub returns-in-277 : goal.returns-in-277
unfolding row_of plain_at vector_at vectors
returns-in-277 c = in-arm f body 37 tt c.in-277.is

pub returns-in-280 : goal.returns-in-280
unfolding row_of plain_at vector_at vectors
returns-in-280 c = in-arm f body 38 tt c.in-280.is

pub returns-in-281 : goal.returns-in-281
unfolding row_of plain_at vector_at vectors
returns-in-281 c = in-arm f body 39 tt c.in-281.is

pub returns-in-283 : goal.returns-in-283
unfolding row_of plain_at vector_at vectors
returns-in-283 c = in-arm f body 40 tt c.in-283.is

pub returns-in-285 : goal.returns-in-285
unfolding row_of plain_at vector_at vectors
returns-in-285 c = in-arm f body 41 tt c.in-285.is

pub returns-in-279 : goal.returns-in-279
unfolding row_of plain_at vector_at vectors
returns-in-279 c = in-arm f body 42 tt c.in-279.is

pub returns-in-282 : goal.returns-in-282
unfolding row_of plain_at vector_at vectors
returns-in-282 c = in-arm f body 43 tt c.in-282.is

pub returns-in-284 : goal.returns-in-284
unfolding row_of plain_at vector_at vectors
returns-in-284 c = in-arm f body 44 tt c.in-284.is

pub returns-in-286 : goal.returns-in-286
unfolding row_of plain_at vector_at vectors
returns-in-286 c = in-arm f body 45 tt c.in-286.is

pub returns-in-352 : goal.returns-in-352
unfolding row_of plain_at vector_at vectors
returns-in-352 c = in-arm f body 46 tt c.in-352.is

pub returns-in-416 : goal.returns-in-416
unfolding row_of plain_at vector_at vectors
returns-in-416 c = in-arm f body 47 tt c.in-416.is

pub returns-in-333 : goal.returns-in-333
unfolding row_of plain_at vector_at vectors
returns-in-333 c = in-arm f body 48 tt c.in-333.is

pub returns-in-417 : goal.returns-in-417
unfolding row_of plain_at vector_at vectors
returns-in-417 c = in-arm f body 49 tt c.in-417.is

pub returns-in-270 : goal.returns-in-270
unfolding row_of plain_at vector_at vectors
returns-in-270 c = in-arm f body 50 tt c.in-270.is

pub returns-in-308 : goal.returns-in-308
unfolding row_of plain_at vector_at vectors
returns-in-308 c = in-arm f body 51 tt c.in-308.is

pub returns-in-358 : goal.returns-in-358
unfolding row_of plain_at vector_at vectors
returns-in-358 c = in-arm f body 52 tt c.in-358.is

pub returns-in-400 : goal.returns-in-400
unfolding row_of plain_at vector_at vectors
returns-in-400 c = in-arm f body 53 tt c.in-400.is

pub returns-in-442 : goal.returns-in-442
unfolding row_of plain_at vector_at vectors
returns-in-442 c = in-arm f body 54 tt c.in-442.is

pub returns-in-291 : goal.returns-in-291
unfolding row_of plain_at vector_at vectors
returns-in-291 c = in-arm f body 55 tt c.in-291.is

pub returns-in-311 : goal.returns-in-311
unfolding row_of plain_at vector_at vectors
returns-in-311 c = in-arm f body 56 tt c.in-311.is

pub returns-in-371 : goal.returns-in-371
unfolding row_of plain_at vector_at vectors
returns-in-371 c = in-arm f body 57 tt c.in-371.is

pub returns-in-409 : goal.returns-in-409
unfolding row_of plain_at vector_at vectors
returns-in-409 c = in-arm f body 58 tt c.in-409.is

pub returns-in-465 : goal.returns-in-465
unfolding row_of plain_at vector_at vectors
returns-in-465 c = in-arm f body 59 tt c.in-465.is

pub returns-in-338 : goal.returns-in-338
unfolding row_of plain_at vector_at vectors
returns-in-338 c = in-arm f body 60 tt c.in-338.is

pub returns-in-356 : goal.returns-in-356
unfolding row_of plain_at vector_at vectors
returns-in-356 c = in-arm f body 61 tt c.in-356.is

pub returns-in-339 : goal.returns-in-339
unfolding row_of plain_at vector_at vectors
returns-in-339 c = in-arm f body 62 tt c.in-339.is

pub returns-in-364 : goal.returns-in-364
unfolding row_of plain_at vector_at vectors
returns-in-364 c = in-arm f body 63 tt c.in-364.is

pub returns-in-363 : goal.returns-in-363
unfolding row_of plain_at vector_at vectors
returns-in-363 c = in-arm f body 64 tt c.in-363.is

pub returns-in-276 : goal.returns-in-276
unfolding row_of plain_at vector_at vectors
returns-in-276 c = in-arm f body 65 tt c.in-276.is

pub returns-in-360 : goal.returns-in-360
unfolding row_of plain_at vector_at vectors
returns-in-360 c = in-arm f body 66 tt c.in-360.is

pub returns-in-492 : goal.returns-in-492
unfolding row_of plain_at vector_at vectors
returns-in-492 c = in-arm f body 67 tt c.in-492.is

pub returns-in-275 : goal.returns-in-275
unfolding row_of plain_at vector_at vectors
returns-in-275 c = in-arm f body 68 tt c.in-275.is

pub returns-in-359 : goal.returns-in-359
unfolding row_of plain_at vector_at vectors
returns-in-359 c = in-arm f body 69 tt c.in-359.is

pub returns-in-495 : goal.returns-in-495
unfolding row_of plain_at vector_at vectors
returns-in-495 c = in-arm f body 70 tt c.in-495.is

pub returns-in_default : goal.returns-in_default
unfolding row_of plain_at vector_at vectors
returns-in_default c = past-arms f body 512 tt (λ h. ap entry_of (row-beyond c.args.id h)) c.in_default.in_default-own.rest
