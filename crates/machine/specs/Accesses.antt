-- Which instructions reach into the memory, and where (01, "Instructions"; 000, "Load and store"; Core 2.0, 4.4.7): written without the machine,
-- which traps at such an access past the memory's end and nowhere else (proofs/Traps, traps-exact).
use Rattle.std.specs.Prelude.{ℕ, ◌+◌, List, ◌∷◌}
use Rattle.std.specs.Int.{Width}
use mir.Val.{bytes}
use Rattle.scalar.specs.Scalar.{Sign}
use Rattle.operation.specs.Op.{Whole, Widen, Repeat, ZeroPad, Load, LoadLane, Store, StoreLane}
use Rattle.opcode.specs.Table.{Code, vector}
use Rattle.instr.specs.declared.Instr.{Instr}
use Rattle.machine.specs.Value.{Value, I32, V128}

-- with this stack, its top first, the instruction i of this code accesses n bytes from a on: a is the address on the stack, below any vector, plus
-- the offset, never wrapped; n is sixteen bytes, eight for an extending load, else the bytes of a lane
pub data Accesses (i : Instr) : Code → List Value → ℕ → ℕ → Type 0 where
  load : {x : ℕ} {st : List Value} → Accesses i (vector (Load Whole)) (I32 x ∷ st) (x + i.offset) 16
  load_extend : {s : Sign} {w : Width} {x : ℕ} {st : List Value} → Accesses i (vector (Load (Widen s w))) (I32 x ∷ st) (x + i.offset) 8
  load_splat : {w : Width} {x : ℕ} {st : List Value} → Accesses i (vector (Load (Repeat w))) (I32 x ∷ st) (x + i.offset) (bytes w)
  load_zero : {w : Width} {x : ℕ} {st : List Value} → Accesses i (vector (Load (ZeroPad w))) (I32 x ∷ st) (x + i.offset) (bytes w)
  load_lane : {w : Width} {v : List ℕ} {x : ℕ} {st : List Value} → Accesses i (vector (LoadLane w)) (V128 v ∷ I32 x ∷ st) (x + i.offset) (bytes w)
  store : {v : List ℕ} {x : ℕ} {st : List Value} → Accesses i (vector Store) (V128 v ∷ I32 x ∷ st) (x + i.offset) 16
  store_lane : {w : Width} {v : List ℕ} {x : ℕ} {st : List Value} → Accesses i (vector (StoreLane w)) (V128 v ∷ I32 x ∷ st) (x + i.offset) (bytes w)

-- the same instruction with another alignment exponent, which no access asks for (proofs/Aligned, aligned-alike)
abbrev pub aligned : ℕ → Instr → Instr
aligned e i =
    record {
      first = i.first;
      number = i.number;
      index = i.index;
      word = i.word;
      long = i.long;
      align = e;
      offset = i.offset;
      lane = i.lane;
      block = i.block;
      bytes = i.bytes;
    }
