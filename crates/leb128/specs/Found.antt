-- What an answer of reading tells a caller: of a number its bits, its length, where it lies and that the grammar writes it.
use Rattle.std.specs.Prelude.{ℕ, ◌+◌, ◌*◌, ◌^◌, ◌<◌, ◌≤◌, Bool, List, length, Result, Ok, Err}
use Rattle.leb128.specs.Grammar.{Stands, Cut, Nothing}
use Rattle.leb128.specs.Bits.{integer}
use Rattle.leb128.specs.declared.reading.Number.{Number}
use Rattle.leb128.specs.declared.reading.NoNumber.{NoNumber}
use Rattle.leb128.specs.declared.reading.NoNumber.TheVariants.{Short, Wrong}

pub record Found (sign : Bool) (N : ℕ) (s : List ℕ) (at v n : ℕ) : Type 0 where
  pub small : v < 2 ^ N
  pub some : 0 < n
  pub few : 7 * n < N + 7
  pub inside : at + n ≤ length s
  pub stands : Stands sign N s at (integer sign N v) n

abbrev pub Says : Bool → ℕ → List ℕ → ℕ → Result Number NoNumber → Type 0
Says sign N s at (Ok m) = Found sign N s at m.value m.len
Says sign N s at (Err Short) = Cut sign N s at
Says sign N s at (Err Wrong) = Nothing sign N s at
