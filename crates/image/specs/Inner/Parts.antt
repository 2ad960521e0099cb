-- Inner: what the parts of a slot and of an image are asked.
use Rattle.std.specs.Prelude.{ℕ, ◌≤◌, ◌<◌, ◌≡◌, cond, List, map, eqb, get_or, take}
use Rattle.operation.specs.Vector.{le}
use Rattle.opcode.specs.Kind.{Kind, i32, i64, v128, kind_byte, bytes_used}
use Rattle.machine.specs.Value.{Value, kind_of, AllInRange, all_bytes}
use Rattle.machine.specs.Memory.{part}
use Rattle.image.specs.Image.{image_mark, image_version, filled}

-- the bytes that a value of this kind byte uses
abbrev pub used_by : ℕ → ℕ
used_by b = cond (eqb b (kind_byte i32)) (bytes_used i32) (cond (eqb b (kind_byte i64)) (bytes_used i64) (bytes_used v128))

-- from one place up to another there are zeros
abbrev pub Zeros : ℕ → ℕ → List ℕ → Type 0
Zeros from to bs = (k : ℕ) → from ≤ k → k < to → get_or bs k 0 ≡ 0

-- the front of an image with so many values on the stack, at whatever place
pub record Fronts (buffer : List ℕ) (depth : ℕ) : Type 0 where
  pub mark : take 3 buffer ≡ image_mark
  pub version : part 2 3 buffer ≡ le 2 image_version
  pub deep : part 2 9 buffer ≡ le 2 depth

-- these bytes are a room with these values, of these kinds
pub record Rooms (ks : List Kind) (room : ℕ) (bs : List ℕ) (vs : List Value) : Type 0 where
  pub kinds : map kind_of vs ≡ ks
  pub range : AllInRange vs
  pub bytes : bs ≡ filled room (all_bytes vs)
