-- What a strip consists of: its header, and its instructions one after the other to the end of the file.
use Rattle.std.specs.Prelude.{ℕ, ◌+◌, ◌≡◌, List, [], ◌∷◌, length}
use Rattle.instr.specs.declared.Instr.{Instr}
use Rattle.instr.specs.Layout.{Stands}
use Rattle.rules.specs.Header.{Header, Declares, header_bytes}

-- these instructions stand one after the other in a strip of this version, from the place p to the end of the file
pub data Instructions (ver : ℕ) (s : List ℕ) : ℕ → List Instr → Type 0 where
  no_more : {p : ℕ} → p ≡ length s → Instructions ver s p []
  one_more : {p n : ℕ} {i : Instr} {is : List Instr} → Stands ver s p i n → Instructions ver s (p + n) is → Instructions ver s p (i ∷ is)

-- the strip s has this header and these instructions; where it is valid, `end` is the last of them
pub record Consists (s : List ℕ) (h : Header) (is : List Instr) : Type 0 where
  pub declares : Declares s h
  pub instructions : Instructions h.version s (length (header_bytes h)) is
