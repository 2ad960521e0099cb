-- The kinds of values (01, "The strip file", "Values and shapes"): a kind's byte, how many of a value's sixteen bytes it uses, and its
-- name (Core 6.4).
use Rattle.std.specs.Prelude.{ℕ, List}
use Rattle.opcode.specs.Ascii.{ascii}

pub data Kind : Type 0 where
  i32 : Kind
  i64 : Kind
  v128 : Kind

abbrev pub kind_byte : Kind → ℕ
kind_byte i32 = 0x7F
kind_byte i64 = 0x7E
kind_byte v128 = 0x7B

abbrev pub bytes_used : Kind → ℕ
bytes_used i32 = 4
bytes_used i64 = 8
bytes_used v128 = 16

abbrev pub kind_name : Kind → List ℕ
kind_name i32 = ascii "i32"
kind_name i64 = ascii "i64"
kind_name v128 = ascii "v128"
