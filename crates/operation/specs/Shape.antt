-- The four integer shapes (01, "Values and shapes"; 000, "Lane division interpretation"): a shape is known by its lane's width.
use Rattle.std.specs.Prelude.{ℕ, ◌/◌}
use Rattle.std.specs.Int.{Width, w8, w16, w32, w64, w128}
use mir.Val.{bits}

abbrev pub i8x16 : Width
i8x16 = w8

abbrev pub i16x8 : Width
i16x8 = w16

abbrev pub i32x4 : Width
i32x4 = w32

abbrev pub i64x2 : Width
i64x2 = w64

abbrev pub lanes : Width → ℕ
lanes w = 128 / bits w

-- the shape whose lanes have half the width
abbrev pub half : Width → Width
half w8 = w8
half w16 = w8
half w32 = w16
half w64 = w32
half w128 = w64

-- and twice the width
abbrev pub twice : Width → Width
twice w8 = w16
twice w16 = w32
twice w32 = w64
twice w64 = w128
twice w128 = w128
