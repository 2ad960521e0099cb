-- What the public functions promise: 01's answers, by Core's grammar; and the same as equations, for those who call them.
use Rattle.std.specs.Prelude.{ℕ, ◌+◌, ◌≤◌, ◌<◌, ◌≡◌, Bool, Option, Result, List, ◌++◌, length, take, drop, ℤ}
use Rattle.card.specs.Card.{DONE, SHORT, NUMBER, SMALL}
use Rattle.leb128.specs.Grammar.{ShortestForm, Stands, Cut, Nothing}
use Rattle.leb128.specs.Bits.{integer, bits}
use Rattle.leb128.specs.Answer.{Told, told, told_read, told_wrote}
use Rattle.leb128.specs.Number.{number_at}
use Rattle.leb128.specs.Shortest.{bytes_of, wrote_at, put_at}
use Rattle.leb128.specs.declared.reading.Number.{Number}
use Rattle.leb128.specs.declared.reading.NoNumber.{NoNumber}

-- reading at a place: the integer that stands there; SHORT where it is cut; NUMBER where neither is so
pub data Reads (sign : Bool) (N : ℕ) (s : List ℕ) (at : ℕ) : Told → Type 0 where
  done : {z : ℤ} {n : ℕ} → Stands sign N s at z n → Reads sign N s at (told DONE 0 (bits N z) n)
  short : Cut sign N s at → Reads sign N s at (told SHORT (length s) 0 0)
  number : Nothing sign N s at → Reads sign N s at (told NUMBER at 0 0)

-- writing the integer that the N bits v hold: its shortest form, from the place on, and no other byte changes; SMALL where there is no room
pub data Writes (sign : Bool) (N v at : ℕ) (out : List ℕ) : Told → List ℕ → Type 0 where
  done : {bs : List ℕ} → ShortestForm sign N (integer sign N v) bs → at + length bs ≤ length out
      → Writes sign N v at out (told DONE 0 0 (length bs)) (take at out ++ bs ++ drop (at + length bs) out)
  small : {bs : List ℕ} → ShortestForm sign N (integer sign N v) bs → length out < at + length bs → Writes sign N v at out (told SMALL 0 0 0) out

-- the contracts: r is the answer, out' the buffer afterwards
pub record ReadsNumber (sign : Bool) (N : ℕ) (s : List ℕ) (at : ℕ) (r : Result Number NoNumber) : Type 0 where
  pub answer : r ≡ number_at sign N s at
  pub reads : Reads sign N s at (told_read s at r)

pub record WritesNumber (sign : Bool) (N v at : ℕ) (out : List ℕ) (r : Option ℕ) (out' : List ℕ) : Type 0 where
  pub answer : r ≡ wrote_at (bytes_of sign N v) at out
  pub bytes : out' ≡ put_at (bytes_of sign N v) at out
  pub writes : Writes sign N v at out (told_wrote at r) out'

-- the length of the shortest form
pub record CountsBytes (sign : Bool) (N v n : ℕ) : Type 0 where
  pub answer : n ≡ length (bytes_of sign N v)
  pub shortest : (bs : List ℕ) × ShortestForm sign N (integer sign N v) bs × (length bs ≡ n)
