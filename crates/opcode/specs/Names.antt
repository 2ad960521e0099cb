-- The names by what an instruction does: those of the vector operations put together of their parts as 002 puts them, the others Core's (6.5). A
-- second source, to which the table's names are held.
use Prim.Native.String.{String, ◌++◌}
use Rattle.std.specs.Int.{Width, w8, w16, w32, w64, w128}
use Rattle.scalar.specs.Scalar.{Sign, S, U}
use Rattle.operation.specs.Shape.{i8x16, i16x8, i32x4, half, twice}
use Rattle.operation.specs.Op.{Half, Low, High, Unop, Not, Abs, Neg, Popcnt, Extend, ExtaddPairwise, Binop, And, Andnot, Or, Xor, Swizzle, Eq, Ne, Lt, Gt, Le, Ge, Add, Sub, Mul, AddSat, SubSat, Min, Max, AvgrU, Q15mulrSatS, DotS, Narrow, Extmul, Testop, AnyTrue, AllTrue, Bitmask, Shiftop, Shl, Shr, Loadop, Whole, Widen, Repeat, ZeroPad, Op, Load, LoadLane, Store, StoreLane, Const, Shuffle, Splat, ExtractLane, ReplaceLane, Unary, Binary, Bitselect, Test, Shift}
use Rattle.opcode.specs.Table.{Plain, End, Drop, LocalGet, LocalSet, LocalTee, I32Const, I64Const, I32Add, I32Sub, I32Eqz, I32LtU, Control, Block, Loop, Br, BrIf, Code, plain, control, vector}

-- ---- the parts

-- the bits of a lane, and how many lanes there are; no name has a lane of 128 bits
abbrev pub wide : Width → String
wide w8 = "8"
wide w16 = "16"
wide w32 = "32"
wide w64 = "64"
wide w128 = "128"

abbrev pub many : Width → String
many w8 = "16"
many w16 = "8"
many w32 = "4"
many w64 = "2"
many w128 = "1"

abbrev pub shape : Width → String
shape w = "i" ++ wide w ++ "x" ++ many w

abbrev pub ending : Sign → String
ending S = "_s"
ending U = "_u"

-- a lane that is no narrower than the scalar that it is taken out as is not extended: it has no ending
abbrev pub ending_out : Sign → Width → String
ending_out s w8 = ending s
ending_out s w16 = ending s
ending_out s w32 = ""
ending_out s w64 = ""
ending_out s w128 = ""

abbrev pub side : Half → String
side Low = "low"
side High = "high"

-- ---- the names

abbrev pub name_of_load : Loadop → String
name_of_load Whole = "v128.load"
name_of_load (Widen s w) = "v128.load" ++ wide (half w) ++ "x" ++ many w ++ ending s
name_of_load (Repeat w) = "v128.load" ++ wide w ++ "_splat"
name_of_load (ZeroPad w) = "v128.load" ++ wide w ++ "_zero"

abbrev pub name_of_unary : Unop → String
name_of_unary Not = "v128.not"
name_of_unary (Abs w) = shape w ++ ".abs"
name_of_unary (Neg w) = shape w ++ ".neg"
name_of_unary Popcnt = shape i8x16 ++ ".popcnt"
name_of_unary (Extend h s w) = shape w ++ ".extend_" ++ side h ++ "_" ++ shape (half w) ++ ending s
name_of_unary (ExtaddPairwise s w) = shape w ++ ".extadd_pairwise_" ++ shape (half w) ++ ending s

abbrev pub name_of_binary : Binop → String
name_of_binary And = "v128.and"
name_of_binary Andnot = "v128.andnot"
name_of_binary Or = "v128.or"
name_of_binary Xor = "v128.xor"
name_of_binary Swizzle = shape i8x16 ++ ".swizzle"
name_of_binary (Eq w) = shape w ++ ".eq"
name_of_binary (Ne w) = shape w ++ ".ne"
name_of_binary (Lt s w) = shape w ++ ".lt" ++ ending s
name_of_binary (Gt s w) = shape w ++ ".gt" ++ ending s
name_of_binary (Le s w) = shape w ++ ".le" ++ ending s
name_of_binary (Ge s w) = shape w ++ ".ge" ++ ending s
name_of_binary (Add w) = shape w ++ ".add"
name_of_binary (Sub w) = shape w ++ ".sub"
name_of_binary (Mul w) = shape w ++ ".mul"
name_of_binary (AddSat s w) = shape w ++ ".add_sat" ++ ending s
name_of_binary (SubSat s w) = shape w ++ ".sub_sat" ++ ending s
name_of_binary (Min s w) = shape w ++ ".min" ++ ending s
name_of_binary (Max s w) = shape w ++ ".max" ++ ending s
name_of_binary (AvgrU w) = shape w ++ ".avgr" ++ ending U
name_of_binary Q15mulrSatS = shape i16x8 ++ ".q15mulr_sat" ++ ending S
name_of_binary DotS = shape i32x4 ++ ".dot_" ++ shape i16x8 ++ ending S
name_of_binary (Narrow s w) = shape w ++ ".narrow_" ++ shape (twice w) ++ ending s
name_of_binary (Extmul h s w) = shape w ++ ".extmul_" ++ side h ++ "_" ++ shape (half w) ++ ending s

abbrev pub name_of_test : Testop → String
name_of_test AnyTrue = "v128.any_true"
name_of_test (AllTrue w) = shape w ++ ".all_true"
name_of_test (Bitmask w) = shape w ++ ".bitmask"

abbrev pub name_of_shift : Shiftop → String
name_of_shift (Shl w) = shape w ++ ".shl"
name_of_shift (Shr s w) = shape w ++ ".shr" ++ ending s

unfoldable pub name_of_op : Op → String
name_of_op (Load l) = name_of_load l
name_of_op (LoadLane w) = "v128.load" ++ wide w ++ "_lane"
name_of_op Store = "v128.store"
name_of_op (StoreLane w) = "v128.store" ++ wide w ++ "_lane"
name_of_op Const = "v128.const"
name_of_op Shuffle = shape i8x16 ++ ".shuffle"
name_of_op (Splat w) = shape w ++ ".splat"
name_of_op (ExtractLane s w) = shape w ++ ".extract_lane" ++ ending_out s w
name_of_op (ReplaceLane w) = shape w ++ ".replace_lane"
name_of_op (Unary o) = name_of_unary o
name_of_op (Binary o) = name_of_binary o
name_of_op Bitselect = "v128.bitselect"
name_of_op (Test o) = name_of_test o
name_of_op (Shift o) = name_of_shift o

abbrev pub name_of_plain : Plain → String
name_of_plain End = "end"
name_of_plain Drop = "drop"
name_of_plain LocalGet = "local.get"
name_of_plain LocalSet = "local.set"
name_of_plain LocalTee = "local.tee"
name_of_plain I32Const = "i32.const"
name_of_plain I64Const = "i64.const"
name_of_plain I32Add = "i32.add"
name_of_plain I32Sub = "i32.sub"
name_of_plain I32Eqz = "i32.eqz"
name_of_plain I32LtU = "i32.lt_u"

abbrev pub name_of_control : Control → String
name_of_control Block = "block"
name_of_control Loop = "loop"
name_of_control Br = "br"
name_of_control BrIf = "br_if"

abbrev pub name_of_code : Code → String
name_of_code (plain p) = name_of_plain p
name_of_code (control k) = name_of_control k
name_of_code (vector o) = name_of_op o
