-- A row of the table as one number of eight bytes, its entry: the class, the bytes moved, the lanes and the group, a byte each, then the four
-- of the signature. And the parts of any such number.
use Rattle.std.specs.Prelude.{ℕ, ◌+◌, ◌*◌, ◌/◌, ◌%◌, ◌^◌, [], ◌∷◌}
use Rattle.operation.specs.Vector.{number}
use Rattle.opcode.specs.Table.{Row}
use Rattle.opcode.specs.Immediate.{moved_by, lanes_of}
use Rattle.opcode.specs.Number.{class_of, group_of, effect_of}

abbrev pub entry_of : Row → ℕ
entry_of r = number (class_of r ∷ moved_by r ∷ lanes_of r ∷ group_of r ∷ []) + 2 ^ 32 * effect_of r

-- byte k of a number
abbrev pub byte_in : ℕ → ℕ → ℕ
byte_in k e = e / 2 ^ (8 * k) % 2 ^ 8

abbrev pub class_in : ℕ → ℕ
class_in = byte_in 0

abbrev pub moved_in : ℕ → ℕ
moved_in = byte_in 1

abbrev pub lanes_in : ℕ → ℕ
lanes_in = byte_in 2

abbrev pub group_in : ℕ → ℕ
group_in = byte_in 3

-- bytes 4 to 7
abbrev pub effect_in : ℕ → ℕ
effect_in e = e / 2 ^ 32
