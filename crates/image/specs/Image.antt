-- The image of a run that has spent its budget (02, C-14, C-15): mark, version, place, depth, locals and stack, one part after the other, numbers
-- little-endian.
use Rattle.std.specs.Prelude.{ℕ, ◌+◌, ◌-◌, ◌≤◌, ◌≡◌, cond, ◌||◌, List, [], ◌∷◌, ◌++◌, map, ltb, length, drop, replicate}
use Rattle.limits.specs.Limits.{local_count, stack_limit, local_bytes, stack_bytes}
use Rattle.operation.specs.Vector.{le, number}
use Rattle.opcode.specs.Kind.{Kind}
use Rattle.machine.specs.Value.{Value, kind_of, AllInRange, all_bytes}
use Rattle.machine.specs.Memory.{part}

-- "WGS"
abbrev pub image_mark : List ℕ
image_mark = 0x57 ∷ 0x47 ∷ 0x53 ∷ []

-- version 1 had room for 64 values on the stack (02, C-15)
abbrev pub image_version : ℕ
image_version = 2

-- the parts before the locals
abbrev pub front_bytes : ℕ
front_bytes = 3 + 2 + 4 + 2

abbrev pub image_bytes : ℕ
image_bytes = front_bytes + local_bytes + stack_bytes

-- the place, and how many values are on the stack
abbrev pub front_of : ℕ → ℕ → List ℕ
front_of place depth = image_mark ++ le 2 image_version ++ le 4 place ++ le 2 depth

-- n bytes that begin with these, the rest zero
abbrev pub filled : ℕ → List ℕ → List ℕ
filled n bs = bs ++ replicate (n - length bs) 0

-- at a place, with so many values on the stack, and the slots of the locals and of the stack, the lowest first
abbrev pub laid : ℕ → ℕ → List ℕ → List ℕ → List ℕ
laid place depth locals stack = front_of place depth ++ filled local_bytes locals ++ filled stack_bytes stack

-- with these locals and these values on the stack, the lowest first
abbrev pub image_of : ℕ → List Value → List Value → List ℕ
image_of place locals stack = laid place (length stack) (all_bytes locals) (all_bytes stack)

-- ---- what is written

-- into a buffer's first bytes, and nothing beyond; nothing at all where there is no room
unfoldable pub painted : ℕ → ℕ → List ℕ → List ℕ → List ℕ → List ℕ
painted place depth locals stack buffer =
    cond (ltb (length buffer) image_bytes || (ltb local_bytes (length locals) || ltb stack_bytes (length stack))) buffer
    (laid place depth locals stack ++ drop image_bytes buffer)

-- ---- what is read

-- the place that an image tells; 0, where no instruction stands, of what is too short for one
unfoldable pub place_in : List ℕ → ℕ
place_in buffer = cond (ltb (length buffer) image_bytes) 0 (number (part 4 5 buffer))

-- the buffer begins with the image at this place of these locals and this stack, which are of these kinds and have room in it
pub record Shows (locals stack : List Kind) (buffer : List ℕ) (place : ℕ) (ls vs : List Value) : Type 0 where
  pub local_kinds : map kind_of ls ≡ locals
  pub stack_kinds : map kind_of vs ≡ stack
  pub local_range : AllInRange ls
  pub stack_range : AllInRange vs
  pub local_room : length ls ≤ local_count
  pub stack_room : length vs ≤ stack_limit
  pub rest : List ℕ
  pub begins : buffer ≡ image_of place ls vs ++ rest
