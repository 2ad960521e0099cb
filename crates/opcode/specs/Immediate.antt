-- What follows an opcode (01, "Instructions"; 002, "Immediate operands"), the bytes that an access moves, and how many lanes a lane
-- index chooses among (000, "Load and store", "Immediate operands").
use Rattle.std.specs.Prelude.{ℕ}
use mir.Val.{bytes}
use Rattle.operation.specs.Shape.{lanes}
use Rattle.operation.specs.Op.{Whole, Widen, Repeat, ZeroPad, Op, Load, LoadLane, Store, StoreLane, Const, Shuffle, Splat, ExtractLane, ReplaceLane, Unary, Binary, Bitselect, Test, Shift}
use Rattle.opcode.specs.Table.{End, Drop, LocalGet, LocalSet, LocalTee, I32Const, I64Const, I32Add, I32Sub, I32Eqz, I32LtU, Block, Loop, Br, BrIf, Code, plain, control, vector, Row, carried, float, unassigned}

pub data Immediates : Type 0 where
  nothing : Immediates
  index : Immediates  -- of a local or a block, u32
  block_type : Immediates  -- a byte
  word : Immediates  -- a constant, s32
  long : Immediates  -- a constant, s64
  memory : Immediates  -- an alignment exponent and an offset, u32
  memory_lane : Immediates  -- the same, then a lane index
  lane_index : Immediates
  sixteen_bytes : Immediates
  sixteen_lanes : Immediates  -- lane indices

abbrev pub immediates : Code → Immediates
immediates (plain End) = nothing
immediates (plain Drop) = nothing
immediates (plain LocalGet) = index
immediates (plain LocalSet) = index
immediates (plain LocalTee) = index
immediates (plain I32Const) = word
immediates (plain I64Const) = long
immediates (plain I32Add) = nothing
immediates (plain I32Sub) = nothing
immediates (plain I32Eqz) = nothing
immediates (plain I32LtU) = nothing
immediates (control Block) = block_type
immediates (control Loop) = block_type
immediates (control Br) = index
immediates (control BrIf) = index
immediates (vector (Load l)) = memory
immediates (vector (LoadLane w)) = memory_lane
immediates (vector Store) = memory
immediates (vector (StoreLane w)) = memory_lane
immediates (vector Const) = sixteen_bytes
immediates (vector Shuffle) = sixteen_lanes
immediates (vector (Splat w)) = nothing
immediates (vector (ExtractLane s w)) = lane_index
immediates (vector (ReplaceLane w)) = lane_index
immediates (vector (Unary o)) = nothing
immediates (vector (Binary o)) = nothing
immediates (vector Bitselect) = nothing
immediates (vector (Test o)) = nothing
immediates (vector (Shift o)) = nothing

-- the bytes that an access moves: the alignment exponent's limit and the bounds both go by it; 0 where memory is not touched
abbrev pub moved : Op → ℕ
moved (Load Whole) = 16
moved (Load (Widen s w)) = 8
moved (Load (Repeat w)) = bytes w
moved (Load (ZeroPad w)) = bytes w
moved (LoadLane w) = bytes w
moved Store = 16
moved (StoreLane w) = bytes w
moved Const = 0
moved Shuffle = 0
moved (Splat w) = 0
moved (ExtractLane s w) = 0
moved (ReplaceLane w) = 0
moved (Unary o) = 0
moved (Binary o) = 0
moved Bitselect = 0
moved (Test o) = 0
moved (Shift o) = 0

-- a lane index is below this; 0 where there is no lane index
abbrev pub lane_count : Op → ℕ
lane_count (Load l) = 0
lane_count (LoadLane w) = lanes w
lane_count Store = 0
lane_count (StoreLane w) = lanes w
lane_count Const = 0
lane_count Shuffle = 0
lane_count (Splat w) = 0
lane_count (ExtractLane s w) = lanes w
lane_count (ReplaceLane w) = lanes w
lane_count (Unary o) = 0
lane_count (Binary o) = 0
lane_count Bitselect = 0
lane_count (Test o) = 0
lane_count (Shift o) = 0

-- the same of a row of the table: 0 where it has no operation
abbrev pub moved_by : Row → ℕ
moved_by (carried (plain p)) = 0
moved_by (carried (control c)) = 0
moved_by (carried (vector o)) = moved o
moved_by float = 0
moved_by unassigned = 0

abbrev pub lanes_of : Row → ℕ
lanes_of (carried (plain p)) = 0
lanes_of (carried (control c)) = 0
lanes_of (carried (vector o)) = lane_count o
lanes_of float = 0
lanes_of unassigned = 0
