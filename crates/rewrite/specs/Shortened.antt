-- What 01 asks of the bytes that the rewriter writes: the same strip, every number in its shortest form.
use Rattle.std.specs.Prelude.{ℕ, ◌≤◌, ◌≡◌, List, [], ◌∷◌, ◌++◌, length, take, drop}
use Rattle.instr.specs.declared.Instr.{Instr}
use Rattle.instr.specs.Layout.{Field, Shortest, InOrder, layout}
use Rattle.rules.specs.Header.{Header, header_bytes}
use Rattle.rules.specs.Strip.{Valid}
use Rattle.rules.specs.Consists.{Consists}
use Rattle.rewrite.specs.declared.Rewritten.{Rewritten}

-- the bytes of the output that were written
abbrev pub written : Rewritten → List ℕ → List ℕ
written r out = take r.len out

-- the fields of all of them, in a strip of this version
abbrev pub layouts : ℕ → List Instr → List Field
layouts ver [] = []
layouts ver (i ∷ is) = layout ver i ++ layouts ver is

-- of the strip s, the bytes t
pub record Shortened (s t : List ℕ) : Type 0 where
  pub header : Header
  pub instrs : List Instr
  -- the same header and the same instructions, valid as before
  pub before : Consists s header instrs
  pub after : Consists t header instrs
  pub valid : Valid t
  -- every number in its shortest form
  pub numbers : InOrder Shortest (layouts header.version instrs) (drop (length (header_bytes header)) t)
  -- not longer than s
  pub shorter : length t ≤ length s
  -- no strip that has the same is shorter, and no other is as short
  pub least : (u : List ℕ) → Consists u header instrs → length t ≤ length u
  pub only : (u : List ℕ) → Consists u header instrs → length u ≡ length t → u ≡ t
