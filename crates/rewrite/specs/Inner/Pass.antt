-- Inner: what a pass over the instructions asks and leaves.
use Rattle.std.specs.Prelude.{ℕ, ◌+◌, ◌≤◌, Bool, true, false, ◌≡◌, List, length}
use Rattle.std.proofs.lemmas.List.Edits.{sets}
use Rattle.instr.specs.declared.Instr.{Instr}
use Rattle.rules.specs.Header.{Version}
use Rattle.rules.specs.Consists.{Instructions}
use Rattle.rewrite.specs.Rewrite.{encodings}

-- bytes written from a place on, or only counted
abbrev pub put : Bool → List ℕ → ℕ → List ℕ → List ℕ
put true out at bs = sets out at bs
put false out at bs = out

-- instructions of a version stand from a place on, and what is written has room
pub record AtPass (ver : ℕ) (s : List ℕ) (start : ℕ) (writing : Bool) (size : ℕ) : Type 0 where
  pub versioned : Version ver
  pub instrs : List Instr
  pub stand : Instructions ver s start instrs
  pub room : writing ≡ true → start + length (encodings instrs) ≤ size

pub record Passed (ver : ℕ) (s : List ℕ) (start : ℕ) (writing : Bool) (out : List ℕ) (r : ℕ) (out' : List ℕ) : Type 0 where
  pub instrs : List Instr
  pub stand : Instructions ver s start instrs
  pub to : r ≡ start + length (encodings instrs)
  pub bytes : out' ≡ put writing out start (encodings instrs)
