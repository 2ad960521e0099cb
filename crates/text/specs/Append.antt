-- A text that grows in a buffer.
use Rattle.std.specs.Prelude.{ℕ, ◌+◌, ◌≤◌, ◌<◌, List, length}
use Rattle.std.proofs.lemmas.List.Edits.{sets}

-- what is answered, and the whole buffer after it: these bytes from place `at` on and the place after them; without room for all of them nothing
pub data Appends (bytes out : List ℕ) (at : ℕ) : ℕ → List ℕ → Type 0 where
  fits : at + length bytes ≤ length out → Appends bytes out at (at + length bytes) (sets out at bytes)
  no_room : length out < at + length bytes → Appends bytes out at at out
