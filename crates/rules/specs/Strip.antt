-- A strip that keeps every rule (01, "The strip file", "Numbers on the inspector's card"; 02, C-13; Core 2.0, 3.3): its header, its instructions in
-- order, typed from the empty stack to the results, never more values than the stack holds nor more blocks than may be open, `end` last. Written
-- without the checker.
use Rattle.std.specs.Prelude.{ℕ, ◌+◌, ◌≤◌, ◌≡◌, false, List, [], ◌∷◌, length}
use Rattle.limits.specs.Limits.{stack_limit, nest_limit}
use Rattle.opcode.specs.Table.{End, Code, plain, carried}
use Rattle.instr.specs.declared.Instr.{Instr}
use Rattle.instr.specs.Layout.{Stands, row_in}
use Rattle.rules.specs.Header.{Header, Declares, header_bytes, locals}
use Rattle.rules.specs.Typing.{Frame, opened, all_values, Types, Ends}

-- at p of a strip of this version stands the instruction i, n bytes long, and does c
pub record Reads (ver : ℕ) (s : List ℕ) (p : ℕ) (i : Instr) (c : Code) (n : ℕ) : Type 0 where
  pub stands : Stands ver s p i n
  pub does : row_in ver i ≡ carried c

-- the strip itself is around all blocks, and not counted as one
pub record Within (fs : List Frame) : Type 0 where
  pub blocks : length fs ≤ 1 + nest_limit
  pub values : length (all_values fs) ≤ stack_limit

-- from the front all is well up to the place p, where this is known of the strip and the blocks that are open
pub data Reaches (s : List ℕ) (h : Header) : ℕ → List Frame → Type 0 where
  front : Declares s h → Reaches s h (length (header_bytes h)) (opened false h.results ∷ [])
  past : {p n : ℕ} {i : Instr} {c : Code} {fs fs' : List Frame} → Reaches s h p fs → Reads h.version s p i c n → Types (locals h) i c fs fs'
      → Within fs' → Reaches s h (p + n) fs'

pub record Valid (s : List ℕ) : Type 0 where
  pub header : Header
  pub place : ℕ
  pub strip : Frame
  pub final : Instr
  pub reached : Reaches s header place (strip ∷ [])
  pub ends : Reads header.version s place final (plain End) 1
  pub whole : Ends (strip ∷ [])
  pub last : place + 1 ≡ length s
