-- The opcodes (01, "Instructions"; 002): which operation stands at each number after FD, and at each first byte that is not FD, and
-- its name (002; of those outside the prefix Core 6.5).
use Rattle.std.specs.Prelude.{ℕ, Bool, cond, ◌&&◌, List, [], ◌∷◌, map, eqb, leb, get_or}
use Prim.Native.String.{String}
use Rattle.scalar.specs.Scalar.{S, U}
use Rattle.operation.specs.Shape.{i8x16, i16x8, i32x4, i64x2}
use Rattle.operation.specs.Op.{Low, High, Not, Abs, Neg, Popcnt, Extend, ExtaddPairwise, And, Andnot, Or, Xor, Swizzle, Eq, Ne, Lt, Gt, Le, Ge, Add, Sub, Mul, AddSat, SubSat, Min, Max, AvgrU, Q15mulrSatS, DotS, Narrow, Extmul, AnyTrue, AllTrue, Bitmask, Shl, Shr, Whole, Widen, Repeat, ZeroPad, Op, Load, LoadLane, Store, StoreLane, Const, Shuffle, Splat, ExtractLane, ReplaceLane, Unary, Binary, Bitselect, Test, Shift}
use Rattle.opcode.specs.Ascii.{ascii}

-- those that are opcodes by themselves
pub data Plain : Type 0 where
  End : Plain
  Drop : Plain
  LocalGet : Plain
  LocalSet : Plain
  LocalTee : Plain
  I32Const : Plain
  I64Const : Plain
  I32Add : Plain
  I32Sub : Plain
  I32Eqz : Plain
  I32LtU : Plain

-- those after which it may go on elsewhere
pub data Control : Type 0 where
  Block : Control
  Loop : Control
  Br : Control
  BrIf : Control

pub data Code : Type 0 where
  plain : Plain → Code
  control : Control → Code
  vector : Op → Code

-- carried here, one of the float instructions, or not assigned
pub data Row : Type 0 where
  carried : Code → Row
  float : Row
  unassigned : Row

abbrev pub does : Op → Row
does o = carried (vector o)

-- a name, and what has it; what is not assigned has none
infix 70 ◌is◌
pub data Line : Type 0 where
  ◌is◌ : String → Row → Line

abbrev pub name : Line → String
name (t is r) = t

abbrev pub row : Line → Row
row (t is r) = r

-- FD 00 to FD FF
abbrev pub lines : List Line
lines =
    "v128.load" is does (Load Whole) ∷  -- 0x00
    "v128.load8x8_s" is does (Load (Widen S i16x8)) ∷  -- 0x01
    "v128.load8x8_u" is does (Load (Widen U i16x8)) ∷  -- 0x02
    "v128.load16x4_s" is does (Load (Widen S i32x4)) ∷  -- 0x03
    "v128.load16x4_u" is does (Load (Widen U i32x4)) ∷  -- 0x04
    "v128.load32x2_s" is does (Load (Widen S i64x2)) ∷  -- 0x05
    "v128.load32x2_u" is does (Load (Widen U i64x2)) ∷  -- 0x06
    "v128.load8_splat" is does (Load (Repeat i8x16)) ∷  -- 0x07
    "v128.load16_splat" is does (Load (Repeat i16x8)) ∷  -- 0x08
    "v128.load32_splat" is does (Load (Repeat i32x4)) ∷  -- 0x09
    "v128.load64_splat" is does (Load (Repeat i64x2)) ∷  -- 0x0A
    "v128.store" is does Store ∷  -- 0x0B
    "v128.const" is does Const ∷  -- 0x0C
    "i8x16.shuffle" is does Shuffle ∷  -- 0x0D
    "i8x16.swizzle" is does (Binary Swizzle) ∷  -- 0x0E
    "i8x16.splat" is does (Splat i8x16) ∷  -- 0x0F
    "i16x8.splat" is does (Splat i16x8) ∷  -- 0x10
    "i32x4.splat" is does (Splat i32x4) ∷  -- 0x11
    "i64x2.splat" is does (Splat i64x2) ∷  -- 0x12
    "f32x4.splat" is float ∷  -- 0x13
    "f64x2.splat" is float ∷  -- 0x14
    "i8x16.extract_lane_s" is does (ExtractLane S i8x16) ∷  -- 0x15
    "i8x16.extract_lane_u" is does (ExtractLane U i8x16) ∷  -- 0x16
    "i8x16.replace_lane" is does (ReplaceLane i8x16) ∷  -- 0x17
    "i16x8.extract_lane_s" is does (ExtractLane S i16x8) ∷  -- 0x18
    "i16x8.extract_lane_u" is does (ExtractLane U i16x8) ∷  -- 0x19
    "i16x8.replace_lane" is does (ReplaceLane i16x8) ∷  -- 0x1A
    "i32x4.extract_lane" is does (ExtractLane S i32x4) ∷  -- 0x1B
    "i32x4.replace_lane" is does (ReplaceLane i32x4) ∷  -- 0x1C
    "i64x2.extract_lane" is does (ExtractLane S i64x2) ∷  -- 0x1D
    "i64x2.replace_lane" is does (ReplaceLane i64x2) ∷  -- 0x1E
    "f32x4.extract_lane" is float ∷  -- 0x1F
    "f32x4.replace_lane" is float ∷  -- 0x20
    "f64x2.extract_lane" is float ∷  -- 0x21
    "f64x2.replace_lane" is float ∷  -- 0x22
    "i8x16.eq" is does (Binary (Eq i8x16)) ∷  -- 0x23
    "i8x16.ne" is does (Binary (Ne i8x16)) ∷  -- 0x24
    "i8x16.lt_s" is does (Binary (Lt S i8x16)) ∷  -- 0x25
    "i8x16.lt_u" is does (Binary (Lt U i8x16)) ∷  -- 0x26
    "i8x16.gt_s" is does (Binary (Gt S i8x16)) ∷  -- 0x27
    "i8x16.gt_u" is does (Binary (Gt U i8x16)) ∷  -- 0x28
    "i8x16.le_s" is does (Binary (Le S i8x16)) ∷  -- 0x29
    "i8x16.le_u" is does (Binary (Le U i8x16)) ∷  -- 0x2A
    "i8x16.ge_s" is does (Binary (Ge S i8x16)) ∷  -- 0x2B
    "i8x16.ge_u" is does (Binary (Ge U i8x16)) ∷  -- 0x2C
    "i16x8.eq" is does (Binary (Eq i16x8)) ∷  -- 0x2D
    "i16x8.ne" is does (Binary (Ne i16x8)) ∷  -- 0x2E
    "i16x8.lt_s" is does (Binary (Lt S i16x8)) ∷  -- 0x2F
    "i16x8.lt_u" is does (Binary (Lt U i16x8)) ∷  -- 0x30
    "i16x8.gt_s" is does (Binary (Gt S i16x8)) ∷  -- 0x31
    "i16x8.gt_u" is does (Binary (Gt U i16x8)) ∷  -- 0x32
    "i16x8.le_s" is does (Binary (Le S i16x8)) ∷  -- 0x33
    "i16x8.le_u" is does (Binary (Le U i16x8)) ∷  -- 0x34
    "i16x8.ge_s" is does (Binary (Ge S i16x8)) ∷  -- 0x35
    "i16x8.ge_u" is does (Binary (Ge U i16x8)) ∷  -- 0x36
    "i32x4.eq" is does (Binary (Eq i32x4)) ∷  -- 0x37
    "i32x4.ne" is does (Binary (Ne i32x4)) ∷  -- 0x38
    "i32x4.lt_s" is does (Binary (Lt S i32x4)) ∷  -- 0x39
    "i32x4.lt_u" is does (Binary (Lt U i32x4)) ∷  -- 0x3A
    "i32x4.gt_s" is does (Binary (Gt S i32x4)) ∷  -- 0x3B
    "i32x4.gt_u" is does (Binary (Gt U i32x4)) ∷  -- 0x3C
    "i32x4.le_s" is does (Binary (Le S i32x4)) ∷  -- 0x3D
    "i32x4.le_u" is does (Binary (Le U i32x4)) ∷  -- 0x3E
    "i32x4.ge_s" is does (Binary (Ge S i32x4)) ∷  -- 0x3F
    "i32x4.ge_u" is does (Binary (Ge U i32x4)) ∷  -- 0x40
    "f32x4.eq" is float ∷  -- 0x41
    "f32x4.ne" is float ∷  -- 0x42
    "f32x4.lt" is float ∷  -- 0x43
    "f32x4.gt" is float ∷  -- 0x44
    "f32x4.le" is float ∷  -- 0x45
    "f32x4.ge" is float ∷  -- 0x46
    "f64x2.eq" is float ∷  -- 0x47
    "f64x2.ne" is float ∷  -- 0x48
    "f64x2.lt" is float ∷  -- 0x49
    "f64x2.gt" is float ∷  -- 0x4A
    "f64x2.le" is float ∷  -- 0x4B
    "f64x2.ge" is float ∷  -- 0x4C
    "v128.not" is does (Unary Not) ∷  -- 0x4D
    "v128.and" is does (Binary And) ∷  -- 0x4E
    "v128.andnot" is does (Binary Andnot) ∷  -- 0x4F
    "v128.or" is does (Binary Or) ∷  -- 0x50
    "v128.xor" is does (Binary Xor) ∷  -- 0x51
    "v128.bitselect" is does Bitselect ∷  -- 0x52
    "v128.any_true" is does (Test AnyTrue) ∷  -- 0x53
    "v128.load8_lane" is does (LoadLane i8x16) ∷  -- 0x54
    "v128.load16_lane" is does (LoadLane i16x8) ∷  -- 0x55
    "v128.load32_lane" is does (LoadLane i32x4) ∷  -- 0x56
    "v128.load64_lane" is does (LoadLane i64x2) ∷  -- 0x57
    "v128.store8_lane" is does (StoreLane i8x16) ∷  -- 0x58
    "v128.store16_lane" is does (StoreLane i16x8) ∷  -- 0x59
    "v128.store32_lane" is does (StoreLane i32x4) ∷  -- 0x5A
    "v128.store64_lane" is does (StoreLane i64x2) ∷  -- 0x5B
    "v128.load32_zero" is does (Load (ZeroPad i32x4)) ∷  -- 0x5C
    "v128.load64_zero" is does (Load (ZeroPad i64x2)) ∷  -- 0x5D
    "f32x4.demote_f64x2_zero" is float ∷  -- 0x5E
    "f64x2.promote_low_f32x4" is float ∷  -- 0x5F
    "i8x16.abs" is does (Unary (Abs i8x16)) ∷  -- 0x60
    "i8x16.neg" is does (Unary (Neg i8x16)) ∷  -- 0x61
    "i8x16.popcnt" is does (Unary Popcnt) ∷  -- 0x62
    "i8x16.all_true" is does (Test (AllTrue i8x16)) ∷  -- 0x63
    "i8x16.bitmask" is does (Test (Bitmask i8x16)) ∷  -- 0x64
    "i8x16.narrow_i16x8_s" is does (Binary (Narrow S i8x16)) ∷  -- 0x65
    "i8x16.narrow_i16x8_u" is does (Binary (Narrow U i8x16)) ∷  -- 0x66
    "f32x4.ceil" is float ∷  -- 0x67
    "f32x4.floor" is float ∷  -- 0x68
    "f32x4.trunc" is float ∷  -- 0x69
    "f32x4.nearest" is float ∷  -- 0x6A
    "i8x16.shl" is does (Shift (Shl i8x16)) ∷  -- 0x6B
    "i8x16.shr_s" is does (Shift (Shr S i8x16)) ∷  -- 0x6C
    "i8x16.shr_u" is does (Shift (Shr U i8x16)) ∷  -- 0x6D
    "i8x16.add" is does (Binary (Add i8x16)) ∷  -- 0x6E
    "i8x16.add_sat_s" is does (Binary (AddSat S i8x16)) ∷  -- 0x6F
    "i8x16.add_sat_u" is does (Binary (AddSat U i8x16)) ∷  -- 0x70
    "i8x16.sub" is does (Binary (Sub i8x16)) ∷  -- 0x71
    "i8x16.sub_sat_s" is does (Binary (SubSat S i8x16)) ∷  -- 0x72
    "i8x16.sub_sat_u" is does (Binary (SubSat U i8x16)) ∷  -- 0x73
    "f64x2.ceil" is float ∷  -- 0x74
    "f64x2.floor" is float ∷  -- 0x75
    "i8x16.min_s" is does (Binary (Min S i8x16)) ∷  -- 0x76
    "i8x16.min_u" is does (Binary (Min U i8x16)) ∷  -- 0x77
    "i8x16.max_s" is does (Binary (Max S i8x16)) ∷  -- 0x78
    "i8x16.max_u" is does (Binary (Max U i8x16)) ∷  -- 0x79
    "f64x2.trunc" is float ∷  -- 0x7A
    "i8x16.avgr_u" is does (Binary (AvgrU i8x16)) ∷  -- 0x7B
    "i16x8.extadd_pairwise_i8x16_s" is does (Unary (ExtaddPairwise S i16x8)) ∷  -- 0x7C
    "i16x8.extadd_pairwise_i8x16_u" is does (Unary (ExtaddPairwise U i16x8)) ∷  -- 0x7D
    "i32x4.extadd_pairwise_i16x8_s" is does (Unary (ExtaddPairwise S i32x4)) ∷  -- 0x7E
    "i32x4.extadd_pairwise_i16x8_u" is does (Unary (ExtaddPairwise U i32x4)) ∷  -- 0x7F
    "i16x8.abs" is does (Unary (Abs i16x8)) ∷  -- 0x80
    "i16x8.neg" is does (Unary (Neg i16x8)) ∷  -- 0x81
    "i16x8.q15mulr_sat_s" is does (Binary Q15mulrSatS) ∷  -- 0x82
    "i16x8.all_true" is does (Test (AllTrue i16x8)) ∷  -- 0x83
    "i16x8.bitmask" is does (Test (Bitmask i16x8)) ∷  -- 0x84
    "i16x8.narrow_i32x4_s" is does (Binary (Narrow S i16x8)) ∷  -- 0x85
    "i16x8.narrow_i32x4_u" is does (Binary (Narrow U i16x8)) ∷  -- 0x86
    "i16x8.extend_low_i8x16_s" is does (Unary (Extend Low S i16x8)) ∷  -- 0x87
    "i16x8.extend_high_i8x16_s" is does (Unary (Extend High S i16x8)) ∷  -- 0x88
    "i16x8.extend_low_i8x16_u" is does (Unary (Extend Low U i16x8)) ∷  -- 0x89
    "i16x8.extend_high_i8x16_u" is does (Unary (Extend High U i16x8)) ∷  -- 0x8A
    "i16x8.shl" is does (Shift (Shl i16x8)) ∷  -- 0x8B
    "i16x8.shr_s" is does (Shift (Shr S i16x8)) ∷  -- 0x8C
    "i16x8.shr_u" is does (Shift (Shr U i16x8)) ∷  -- 0x8D
    "i16x8.add" is does (Binary (Add i16x8)) ∷  -- 0x8E
    "i16x8.add_sat_s" is does (Binary (AddSat S i16x8)) ∷  -- 0x8F
    "i16x8.add_sat_u" is does (Binary (AddSat U i16x8)) ∷  -- 0x90
    "i16x8.sub" is does (Binary (Sub i16x8)) ∷  -- 0x91
    "i16x8.sub_sat_s" is does (Binary (SubSat S i16x8)) ∷  -- 0x92
    "i16x8.sub_sat_u" is does (Binary (SubSat U i16x8)) ∷  -- 0x93
    "f64x2.nearest" is float ∷  -- 0x94
    "i16x8.mul" is does (Binary (Mul i16x8)) ∷  -- 0x95
    "i16x8.min_s" is does (Binary (Min S i16x8)) ∷  -- 0x96
    "i16x8.min_u" is does (Binary (Min U i16x8)) ∷  -- 0x97
    "i16x8.max_s" is does (Binary (Max S i16x8)) ∷  -- 0x98
    "i16x8.max_u" is does (Binary (Max U i16x8)) ∷  -- 0x99
    "" is unassigned ∷  -- 0x9A
    "i16x8.avgr_u" is does (Binary (AvgrU i16x8)) ∷  -- 0x9B
    "i16x8.extmul_low_i8x16_s" is does (Binary (Extmul Low S i16x8)) ∷  -- 0x9C
    "i16x8.extmul_high_i8x16_s" is does (Binary (Extmul High S i16x8)) ∷  -- 0x9D
    "i16x8.extmul_low_i8x16_u" is does (Binary (Extmul Low U i16x8)) ∷  -- 0x9E
    "i16x8.extmul_high_i8x16_u" is does (Binary (Extmul High U i16x8)) ∷  -- 0x9F
    "i32x4.abs" is does (Unary (Abs i32x4)) ∷  -- 0xA0
    "i32x4.neg" is does (Unary (Neg i32x4)) ∷  -- 0xA1
    "" is unassigned ∷  -- 0xA2
    "i32x4.all_true" is does (Test (AllTrue i32x4)) ∷  -- 0xA3
    "i32x4.bitmask" is does (Test (Bitmask i32x4)) ∷  -- 0xA4
    "" is unassigned ∷  -- 0xA5
    "" is unassigned ∷  -- 0xA6
    "i32x4.extend_low_i16x8_s" is does (Unary (Extend Low S i32x4)) ∷  -- 0xA7
    "i32x4.extend_high_i16x8_s" is does (Unary (Extend High S i32x4)) ∷  -- 0xA8
    "i32x4.extend_low_i16x8_u" is does (Unary (Extend Low U i32x4)) ∷  -- 0xA9
    "i32x4.extend_high_i16x8_u" is does (Unary (Extend High U i32x4)) ∷  -- 0xAA
    "i32x4.shl" is does (Shift (Shl i32x4)) ∷  -- 0xAB
    "i32x4.shr_s" is does (Shift (Shr S i32x4)) ∷  -- 0xAC
    "i32x4.shr_u" is does (Shift (Shr U i32x4)) ∷  -- 0xAD
    "i32x4.add" is does (Binary (Add i32x4)) ∷  -- 0xAE
    "" is unassigned ∷  -- 0xAF
    "" is unassigned ∷  -- 0xB0
    "i32x4.sub" is does (Binary (Sub i32x4)) ∷  -- 0xB1
    "" is unassigned ∷  -- 0xB2
    "" is unassigned ∷  -- 0xB3
    "" is unassigned ∷  -- 0xB4
    "i32x4.mul" is does (Binary (Mul i32x4)) ∷  -- 0xB5
    "i32x4.min_s" is does (Binary (Min S i32x4)) ∷  -- 0xB6
    "i32x4.min_u" is does (Binary (Min U i32x4)) ∷  -- 0xB7
    "i32x4.max_s" is does (Binary (Max S i32x4)) ∷  -- 0xB8
    "i32x4.max_u" is does (Binary (Max U i32x4)) ∷  -- 0xB9
    "i32x4.dot_i16x8_s" is does (Binary DotS) ∷  -- 0xBA
    "" is unassigned ∷  -- 0xBB
    "i32x4.extmul_low_i16x8_s" is does (Binary (Extmul Low S i32x4)) ∷  -- 0xBC
    "i32x4.extmul_high_i16x8_s" is does (Binary (Extmul High S i32x4)) ∷  -- 0xBD
    "i32x4.extmul_low_i16x8_u" is does (Binary (Extmul Low U i32x4)) ∷  -- 0xBE
    "i32x4.extmul_high_i16x8_u" is does (Binary (Extmul High U i32x4)) ∷  -- 0xBF
    "i64x2.abs" is does (Unary (Abs i64x2)) ∷  -- 0xC0
    "i64x2.neg" is does (Unary (Neg i64x2)) ∷  -- 0xC1
    "" is unassigned ∷  -- 0xC2
    "i64x2.all_true" is does (Test (AllTrue i64x2)) ∷  -- 0xC3
    "i64x2.bitmask" is does (Test (Bitmask i64x2)) ∷  -- 0xC4
    "" is unassigned ∷  -- 0xC5
    "" is unassigned ∷  -- 0xC6
    "i64x2.extend_low_i32x4_s" is does (Unary (Extend Low S i64x2)) ∷  -- 0xC7
    "i64x2.extend_high_i32x4_s" is does (Unary (Extend High S i64x2)) ∷  -- 0xC8
    "i64x2.extend_low_i32x4_u" is does (Unary (Extend Low U i64x2)) ∷  -- 0xC9
    "i64x2.extend_high_i32x4_u" is does (Unary (Extend High U i64x2)) ∷  -- 0xCA
    "i64x2.shl" is does (Shift (Shl i64x2)) ∷  -- 0xCB
    "i64x2.shr_s" is does (Shift (Shr S i64x2)) ∷  -- 0xCC
    "i64x2.shr_u" is does (Shift (Shr U i64x2)) ∷  -- 0xCD
    "i64x2.add" is does (Binary (Add i64x2)) ∷  -- 0xCE
    "" is unassigned ∷  -- 0xCF
    "" is unassigned ∷  -- 0xD0
    "i64x2.sub" is does (Binary (Sub i64x2)) ∷  -- 0xD1
    "" is unassigned ∷  -- 0xD2
    "" is unassigned ∷  -- 0xD3
    "" is unassigned ∷  -- 0xD4
    "i64x2.mul" is does (Binary (Mul i64x2)) ∷  -- 0xD5
    "i64x2.eq" is does (Binary (Eq i64x2)) ∷  -- 0xD6
    "i64x2.ne" is does (Binary (Ne i64x2)) ∷  -- 0xD7
    "i64x2.lt_s" is does (Binary (Lt S i64x2)) ∷  -- 0xD8
    "i64x2.gt_s" is does (Binary (Gt S i64x2)) ∷  -- 0xD9
    "i64x2.le_s" is does (Binary (Le S i64x2)) ∷  -- 0xDA
    "i64x2.ge_s" is does (Binary (Ge S i64x2)) ∷  -- 0xDB
    "i64x2.extmul_low_i32x4_s" is does (Binary (Extmul Low S i64x2)) ∷  -- 0xDC
    "i64x2.extmul_high_i32x4_s" is does (Binary (Extmul High S i64x2)) ∷  -- 0xDD
    "i64x2.extmul_low_i32x4_u" is does (Binary (Extmul Low U i64x2)) ∷  -- 0xDE
    "i64x2.extmul_high_i32x4_u" is does (Binary (Extmul High U i64x2)) ∷  -- 0xDF
    "f32x4.abs" is float ∷  -- 0xE0
    "f32x4.neg" is float ∷  -- 0xE1
    "" is unassigned ∷  -- 0xE2
    "f32x4.sqrt" is float ∷  -- 0xE3
    "f32x4.add" is float ∷  -- 0xE4
    "f32x4.sub" is float ∷  -- 0xE5
    "f32x4.mul" is float ∷  -- 0xE6
    "f32x4.div" is float ∷  -- 0xE7
    "f32x4.min" is float ∷  -- 0xE8
    "f32x4.max" is float ∷  -- 0xE9
    "f32x4.pmin" is float ∷  -- 0xEA
    "f32x4.pmax" is float ∷  -- 0xEB
    "f64x2.abs" is float ∷  -- 0xEC
    "f64x2.neg" is float ∷  -- 0xED
    "" is unassigned ∷  -- 0xEE
    "f64x2.sqrt" is float ∷  -- 0xEF
    "f64x2.add" is float ∷  -- 0xF0
    "f64x2.sub" is float ∷  -- 0xF1
    "f64x2.mul" is float ∷  -- 0xF2
    "f64x2.div" is float ∷  -- 0xF3
    "f64x2.min" is float ∷  -- 0xF4
    "f64x2.max" is float ∷  -- 0xF5
    "f64x2.pmin" is float ∷  -- 0xF6
    "f64x2.pmax" is float ∷  -- 0xF7
    "i32x4.trunc_sat_f32x4_s" is float ∷  -- 0xF8
    "i32x4.trunc_sat_f32x4_u" is float ∷  -- 0xF9
    "f32x4.convert_i32x4_s" is float ∷  -- 0xFA
    "f32x4.convert_i32x4_u" is float ∷  -- 0xFB
    "i32x4.trunc_sat_f64x2_s_zero" is float ∷  -- 0xFC
    "i32x4.trunc_sat_f64x2_u_zero" is float ∷  -- 0xFD
    "f64x2.convert_low_i32x4_s" is float ∷  -- 0xFE
    "f64x2.convert_low_i32x4_u" is float ∷  -- 0xFF
    []

unfoldable pub vectors : List Row
vectors = map row lines

unfoldable pub vector_at : ℕ → Row
vector_at n = get_or vectors n unassigned

unfoldable pub vector_name : ℕ → String
vector_name n = name (get_or lines n ("" is unassigned))

-- outside the prefix: the byte, the name, the first version that has it (01; 02, C-13), and what it does
abbrev pub plain_lines : List (ℕ × String × ℕ × Code)
plain_lines =
    (0x02, "block", 2, control Block) ∷
    (0x03, "loop", 2, control Loop) ∷
    (0x0B, "end", 1, plain End) ∷
    (0x0C, "br", 2, control Br) ∷
    (0x0D, "br_if", 2, control BrIf) ∷
    (0x1A, "drop", 1, plain Drop) ∷
    (0x20, "local.get", 1, plain LocalGet) ∷
    (0x21, "local.set", 1, plain LocalSet) ∷
    (0x22, "local.tee", 1, plain LocalTee) ∷
    (0x41, "i32.const", 1, plain I32Const) ∷
    (0x42, "i64.const", 1, plain I64Const) ∷
    (0x45, "i32.eqz", 2, plain I32Eqz) ∷
    (0x49, "i32.lt_u", 2, plain I32LtU) ∷
    (0x6A, "i32.add", 1, plain I32Add) ∷
    (0x6B, "i32.sub", 1, plain I32Sub) ∷
    []

-- the latest version of the format; the first is 1
abbrev pub latest : ℕ
latest = 2

-- the versions that are known
abbrev pub known : ℕ → Bool
known ver = leb 1 ver && leb ver latest

-- a byte that this version does not have yet is not assigned in it
abbrev pub look_up : ℕ → ℕ → List (ℕ × String × ℕ × Code) → Row
look_up ver b [] = unassigned
look_up ver b (l ∷ ls) = cond (eqb b l.0) (cond (leb l.2 ver) (carried l.3) unassigned) (look_up ver b ls)

unfoldable pub plain_at : ℕ → ℕ → Row
plain_at ver b = look_up ver b plain_lines

abbrev pub look_up_name : ℕ → List (ℕ × String × ℕ × Code) → String
look_up_name b [] = ""
look_up_name b (l ∷ ls) = cond (eqb b l.0) l.1 (look_up_name b ls)

unfoldable pub plain_name : ℕ → String
plain_name b = look_up_name b plain_lines

abbrev pub PREFIX : ℕ
PREFIX = 0xFD

-- in a strip of this version, by the number after the prefix, or by a first byte that is not the prefix
abbrev pub row_at : ℕ → ℕ → ℕ → Row
row_at ver first number = cond (eqb first PREFIX) (vector_at number) (plain_at ver first)

-- the bytes of its name, none where it has none
abbrev pub name_at : ℕ → ℕ → List ℕ
name_at first number = ascii (cond (eqb first PREFIX) (vector_name number) (plain_name first))
