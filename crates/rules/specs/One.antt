-- The typing of a strip of version 1 by itself, as 01 has it: one stack, no blocks, no dead code (02, C-13: version 1 strips keep their meaning).
use Rattle.std.specs.Prelude.{ℕ, ◌+◌, ◌≤◌, ◌≡◌, false, List, [], ◌∷◌, ◌++◌, length}
use Rattle.limits.specs.Limits.{stack_limit}
use Rattle.opcode.specs.Kind.{Kind}
use Rattle.opcode.specs.Table.{Code}
use Rattle.instr.specs.declared.Instr.{Instr}
use Rattle.rules.specs.Header.{Header, Declares, header_bytes, locals}
use Rattle.rules.specs.Typing.{Frame, opened, holding, Typed}
use Rattle.rules.specs.Strip.{Reads}

-- over any stack below, as version 1 had it
pub record TypesOne (ls : List Kind) (n : ℕ) (c : Code) (before after : List Kind) : Type 0 where
  pub below : List Kind
  pub ins : List Kind
  pub outs : List Kind
  pub typed : Typed ls n c ins outs
  pub had : before ≡ below ++ ins
  pub has : after ≡ below ++ outs

-- and the places that it reached
pub data ReachesOne (s : List ℕ) (h : Header) : ℕ → List Kind → Type 0 where
  front_one : Declares s h → ReachesOne s h (length (header_bytes h)) []
  past_one : {p n : ℕ} {i : Instr} {c : Code} {κs κs' : List Kind} → ReachesOne s h p κs → Reads h.version s p i c n → TypesOne (locals h) i.index c κs κs'
      → length κs' ≤ stack_limit → ReachesOne s h (p + n) κs'

-- the strip itself with these values
abbrev pub alone : Header → List Kind → List Frame
alone h κs = holding (opened false h.results) κs ∷ []

pub record Straight (s : List ℕ) (h : Header) (p : ℕ) (fs : List Frame) : Type 0 where
  pub stack : List Kind
  pub one : fs ≡ alone h stack
  pub reached : ReachesOne s h p stack
