-- An instruction as one number, its id: the first byte, or 256 and the number after FD. And what the table says of it, as numbers.
use Rattle.std.specs.Prelude.{ℕ, ◌+◌, ◌-◌, ◌*◌, ◌^◌, cond, List, [], ◌∷◌, map, reverse, eqb, ltb}
use Prim.Native.String.{String}
use Rattle.std.proofs.Math.Option.{Option, none, some}
use Rattle.operation.specs.Vector.{number}
use Rattle.opcode.specs.Ascii.{ascii}
use Rattle.opcode.specs.Kind.{kind_byte}
use Rattle.operation.specs.Op.{Op, Load, LoadLane, Store, StoreLane, Const, Shuffle, Splat, ExtractLane, ReplaceLane, Unary, Binary, Bitselect, Test, Shift}
use Rattle.opcode.specs.Table.{Plain, End, Drop, LocalGet, LocalSet, LocalTee, I32Const, I64Const, I32Add, I32Sub, I32Eqz, I32LtU, Control, Block, Loop, Br, BrIf, Code, plain, control, vector, Row, carried, float, unassigned, vector_at, plain_lines, latest, plain_at, vector_name, plain_name, PREFIX}
use Rattle.opcode.specs.Immediate.{Immediates, nothing, index, block_type, word, long, memory, memory_lane, lane_index, sixteen_bytes, sixteen_lanes, immediates}
use Rattle.opcode.specs.Effect.{Signature, ◌⇒◌, effect}

-- 512 stands for every number after FD from 256 on: none of them is assigned
abbrev pub id_of : ℕ → ℕ → ℕ
id_of first n = cond (eqb first PREFIX) (cond (ltb n 256) (256 + n) 512) first

-- in the latest version
unfoldable pub row_of : ℕ → Row
row_of id = cond (ltb id 256) (plain_at latest id) (vector_at (id - 256))

unfoldable pub name_of : ℕ → List ℕ
name_of id = ascii (cond (ltb id 256) (plain_name id) (vector_name (id - 256)))

-- the first version that has a first byte's instructions; of a byte that none has, the first
abbrev pub since_in : ℕ → List (ℕ × String × ℕ × Code) → ℕ
since_in b [] = 1
since_in b (l ∷ ls) = cond (eqb b l.0) l.2 (since_in b ls)

unfoldable pub since_of : ℕ → ℕ
since_of b = since_in b plain_lines

-- the code's CLASS_NOTHING, CLASS_INDEX, CLASS_WORD, CLASS_LONG, CLASS_MEMORY, CLASS_MEMORY_LANE, CLASS_LANE, CLASS_BYTES, CLASS_LANES,
-- CLASS_BLOCK_TYPE
abbrev pub class_number : Immediates → ℕ
class_number nothing = 0
class_number index = 1
class_number word = 2
class_number long = 3
class_number memory = 4
class_number memory_lane = 5
class_number lane_index = 6
class_number sixteen_bytes = 7
class_number sixteen_lanes = 8
class_number block_type = 9

-- and its CLASS_FLOAT and CLASS_UNASSIGNED
abbrev pub CLASS_FLOAT : ℕ
CLASS_FLOAT = 10

abbrev pub CLASS_UNASSIGNED : ℕ
CLASS_UNASSIGNED = 11

abbrev pub class_of : Row → ℕ
class_of (carried c) = class_number (immediates c)
class_of float = CLASS_FLOAT
class_of unassigned = CLASS_UNASSIGNED

-- the kinds' bytes: the top operand in byte 0, those below it in bytes 1 and 2, what is left in byte 3; 0 where there is none
abbrev pub packed : Option Signature → ℕ
packed none = 0
packed (some (ks ⇒ ls)) = number (map kind_byte (reverse ks)) + 2 ^ 24 * number (map kind_byte ls)

abbrev pub effect_of : Row → ℕ
effect_of (carried c) = packed (effect c)
effect_of float = 0
effect_of unassigned = 0

-- ---- the groups: version 1's plain opcodes, then those of the enumeration of operations, then what version 2 adds

abbrev pub group_of_plain : Plain → ℕ
group_of_plain End = 0
group_of_plain Drop = 1
group_of_plain LocalGet = 2
group_of_plain LocalSet = 3
group_of_plain LocalTee = 4
group_of_plain I32Const = 5
group_of_plain I64Const = 6
group_of_plain I32Add = 7
group_of_plain I32Sub = 8
group_of_plain I32Eqz = 23
group_of_plain I32LtU = 24

abbrev pub group_of_control : Control → ℕ
group_of_control Block = 25
group_of_control Loop = 26
group_of_control Br = 27
group_of_control BrIf = 28

abbrev pub group_of_op : Op → ℕ
group_of_op (Load l) = 9
group_of_op (LoadLane w) = 10
group_of_op Store = 11
group_of_op (StoreLane w) = 12
group_of_op Const = 13
group_of_op Shuffle = 14
group_of_op (Splat w) = 15
group_of_op (ExtractLane s w) = 16
group_of_op (ReplaceLane w) = 17
group_of_op (Unary o) = 18
group_of_op (Binary o) = 19
group_of_op Bitselect = 20
group_of_op (Test o) = 21
group_of_op (Shift o) = 22

abbrev pub group_of_code : Code → ℕ
group_of_code (plain p) = group_of_plain p
group_of_code (control k) = group_of_control k
group_of_code (vector o) = group_of_op o

abbrev pub group_of : Row → ℕ
group_of (carried c) = group_of_code c
group_of float = 29
group_of unassigned = 29
