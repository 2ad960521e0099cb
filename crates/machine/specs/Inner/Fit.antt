-- Inner: what the code asks of an instruction before it does it, and what it answers. Proofs show that the standard's machine going on implies the
-- first.
use Rattle.std.specs.Prelude.{ℕ, ◌+◌, ◌≤◌, ◌<◌, max, ◌≡◌, cond, List, leb, length}
use Rattle.operation.specs.Shape.{lanes}
use Rattle.operation.specs.Vector.{lane}
use Rattle.operation.specs.Shape.{i8x16}
use Rattle.operation.specs.Op.{Op, Load, LoadLane, Store, StoreLane, Const, Shuffle, Splat, ExtractLane, ReplaceLane, Unary, Binary, Bitselect, Test, Shift}
use Rattle.limits.specs.Limits.{stack_limit, stack_bytes, local_count, local_bytes}
use Rattle.opcode.specs.Table.{Plain, End, Drop, LocalGet, LocalSet, LocalTee, I32Const, I64Const, I32Add, I32Sub, I32Eqz, I32LtU, Code, plain, control, vector, carried}
use Rattle.opcode.specs.Number.{row_of}
use Rattle.opcode.specs.Immediate.{moved}
use Rattle.instr.specs.declared.Instr.{Instr}
use Rattle.machine.specs.Inner.Flat.{Flat, flat, top_of, reach}
use Rattle.machine.specs.Answer.{Reach, in_reach, out_of_reach}

-- how many values are taken, and left
abbrev pub taken_by_plain : Plain → ℕ
taken_by_plain End = 0
taken_by_plain Drop = 1
taken_by_plain LocalGet = 0
taken_by_plain LocalSet = 1
taken_by_plain LocalTee = 1
taken_by_plain I32Const = 0
taken_by_plain I64Const = 0
taken_by_plain I32Add = 2
taken_by_plain I32Sub = 2
taken_by_plain I32Eqz = 1
taken_by_plain I32LtU = 2

abbrev pub taken_by_op : Op → ℕ
taken_by_op (Load l) = 1
taken_by_op (LoadLane w) = 2
taken_by_op Store = 2
taken_by_op (StoreLane w) = 2
taken_by_op Const = 0
taken_by_op Shuffle = 2
taken_by_op (Splat w) = 1
taken_by_op (ExtractLane s w) = 1
taken_by_op (ReplaceLane w) = 2
taken_by_op (Unary o) = 1
taken_by_op (Binary o) = 2
taken_by_op Bitselect = 3
taken_by_op (Test o) = 1
taken_by_op (Shift o) = 2

abbrev pub taken_by : Code → ℕ
taken_by (plain p) = taken_by_plain p
taken_by (control k) = 0
taken_by (vector o) = taken_by_op o

-- the local that is named has a slot
abbrev pub Slotted : Plain → Instr → Type 0
Slotted End i = Unit {0}
Slotted Drop i = Unit {0}
Slotted LocalGet i = i.index < local_count
Slotted LocalSet i = i.index < local_count
Slotted LocalTee i = i.index < local_count
Slotted I32Const i = Unit {0}
Slotted I64Const i = Unit {0}
Slotted I32Add i = Unit {0}
Slotted I32Sub i = Unit {0}
Slotted I32Eqz i = Unit {0}
Slotted I32LtU i = Unit {0}

-- lane indices are as decoding leaves them
abbrev pub Indexed : Op → Instr → Type 0
Indexed (Load l) i = Unit {0}
Indexed (LoadLane w) i = i.lane < lanes w
Indexed Store i = Unit {0}
Indexed (StoreLane w) i = i.lane < lanes w
Indexed Const i = Unit {0}
Indexed Shuffle i = (k : ℕ) → k < 16 → lane i8x16 i.bytes k < 32
Indexed (Splat w) i = Unit {0}
Indexed (ExtractLane s w) i = i.lane < lanes w
Indexed (ReplaceLane w) i = i.lane < lanes w
Indexed (Unary o) i = Unit {0}
Indexed (Binary o) i = Unit {0}
Indexed Bitselect i = Unit {0}
Indexed (Test o) i = Unit {0}
Indexed (Shift o) i = Unit {0}

abbrev pub Named : Code → Instr → Type 0
Named (plain p) i = Slotted p i
Named (control k) i = Unit {0}
Named (vector o) i = Indexed o i

pub record Fit (c : Code) (st : List ℕ) (d : ℕ) : Type 0 where
  pub stack_long : length st ≡ stack_bytes
  pub enough : taken_by c ≤ d
  pub deep : d ≤ stack_limit

-- the instruction of this number, and the stack for it
pub record Fits (id : ℕ) (st : List ℕ) (d : ℕ) : Type 0 where
  pub code : Code
  pub row : row_of id ≡ carried code
  pub fit : Fit code st d

-- n bytes from an address on in a memory of this length: in reach, or the first address that is not
abbrev pub bounds_at : ℕ → ℕ → ℕ → Reach
bounds_at at n len = cond (leb (at + n) len) in_reach (out_of_reach (max at len))

abbrev pub bounds_op : Op → Instr → List ℕ → ℕ → ℕ → Reach
bounds_op (Load l) i st d len = bounds_at (reach i (top_of st d 1)) (moved (Load l)) len
bounds_op (LoadLane w) i st d len = bounds_at (reach i (top_of st d 2)) (moved (LoadLane w)) len
bounds_op Store i st d len = bounds_at (reach i (top_of st d 2)) (moved Store) len
bounds_op (StoreLane w) i st d len = bounds_at (reach i (top_of st d 2)) (moved (StoreLane w)) len
bounds_op Const i st d len = in_reach
bounds_op Shuffle i st d len = in_reach
bounds_op (Splat w) i st d len = in_reach
bounds_op (ExtractLane s w) i st d len = in_reach
bounds_op (ReplaceLane w) i st d len = in_reach
bounds_op (Unary o) i st d len = in_reach
bounds_op (Binary o) i st d len = in_reach
bounds_op Bitselect i st d len = in_reach
bounds_op (Test o) i st d len = in_reach
bounds_op (Shift o) i st d len = in_reach

abbrev pub bounds_of : Code → Instr → List ℕ → ℕ → ℕ → Reach
bounds_of (plain p) i st d len = in_reach
bounds_of (control k) i st d len = in_reach
bounds_of (vector o) i st d len = bounds_op o i st d len

-- what is asked before an instruction is done
pub record Ready (id : ℕ) (i : Instr) (st : List ℕ) (d : ℕ) (ls m : List ℕ) : Type 0 where
  pub code : Code
  pub row : row_of id ≡ carried code
  pub fit : Fit code st d
  pub named : Named code i
  pub room : (flat code i st d ls m).depth ≤ stack_limit
  pub locals_long : length ls ≡ local_bytes
  pub clear : bounds_of code i st d (length m) ≡ in_reach

-- the code did just that
pub record Did (f : Flat) (d : ℕ) (st ls m : List ℕ) : Type 0 where
  pub depth : d ≡ f.depth
  pub stack : st ≡ f.stack
  pub locals : ls ≡ f.locals
  pub memory : m ≡ f.memory

pub record DidBy (id : ℕ) (i : Instr) (st : List ℕ) (d : ℕ) (ls m : List ℕ) (d' : ℕ) (st' ls' m' : List ℕ) : Type 0 where
  pub does : (c : Code) → row_of id ≡ carried c → Did (flat c i st d ls m) d' st' ls' m'
