-- The limits of a strip, each under its name (01, "The strip file", "Values and shapes", "Instructions"; 02, C-13, C-15). No other definition writes one
-- as a numeral.
use Rattle.std.specs.Prelude.{ℕ, ◌+◌, ◌*◌}

-- a file's bytes
abbrev pub file_limit : ℕ
file_limit = 65536

-- a lent memory's bytes
abbrev pub memory_limit : ℕ
memory_limit = 1048576

abbrev pub parameter_limit : ℕ
parameter_limit = 16

-- further locals
abbrev pub local_limit : ℕ
local_limit = 16

abbrev pub result_limit : ℕ
result_limit = 4

-- values on the operand stack
abbrev pub stack_limit : ℕ
stack_limit = 256

-- blocks inside blocks, the strip itself not counted
abbrev pub nest_limit : ℕ
nest_limit = 32

-- the bytes that a value takes on the stack, in arguments and in results
abbrev pub slot : ℕ
slot = 16

-- parameters and further locals
abbrev pub local_count : ℕ
local_count = parameter_limit + local_limit

-- the operand stack and the locals, a slot each
abbrev pub stack_bytes : ℕ
stack_bytes = slot * stack_limit

abbrev pub local_bytes : ℕ
local_bytes = slot * local_count
