-- Values (Core 2.0, 4.2.1) and their sixteen bytes in arguments and results (01, "Values and shapes").
use Rattle.std.specs.Prelude.{ℕ, ◌<◌, ◌^◌, List, [], ◌∷◌, ◌++◌}
use Rattle.operation.specs.Vector.{le, Sixteen}
use Rattle.opcode.specs.Kind.{Kind, i32, i64, v128}

pub data Value : Type 0 where
  I32 : ℕ → Value
  I64 : ℕ → Value
  V128 : List ℕ → Value

abbrev pub kind_of : Value → Kind
kind_of (I32 n) = i32
kind_of (I64 n) = i64
kind_of (V128 v) = v128

-- in the range of its kind
abbrev pub InRange : Value → Type 0
InRange (I32 n) = n < 2 ^ 32
InRange (I64 n) = n < 2 ^ 64
InRange (V128 v) = Sixteen v

abbrev pub AllInRange : List Value → Type 0
AllInRange [] = Unit {0}
AllInRange (v ∷ vs) = InRange v × AllInRange vs

-- an i32 in the first 4 bytes, an i64 in the first 8, the rest zero
abbrev pub bytes_of : Value → List ℕ
bytes_of (I32 n) = le 16 n
bytes_of (I64 n) = le 16 n
bytes_of (V128 v) = v

unfoldable pub all_bytes : List Value → List ℕ
all_bytes [] = []
all_bytes (v ∷ vs) = bytes_of v ++ all_bytes vs
