-- Inner: kinds as the code reads them.
use Rattle.std.specs.Prelude.{ℕ, Bool, ◌||◌, eqb}
use Rattle.opcode.specs.Kind.{i32, i64, v128, kind_byte}

-- some kind has this byte
abbrev pub is_kind : ℕ → Bool
is_kind b = eqb b (kind_byte i32) || (eqb b (kind_byte i64) || eqb b (kind_byte v128))
