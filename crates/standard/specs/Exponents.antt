-- Two strips that differ in alignment exponents at most (01, "What the terminal runs": "Aligned access earns no different answer").
use Rattle.std.specs.Prelude.{ℕ, ◌≡◌, List, length}
use Rattle.opcode.specs.Table.{Code}
use Rattle.instr.specs.declared.Instr.{Instr}
use Rattle.machine.specs.Accesses.{aligned}
use Rattle.rules.specs.Header.{Header, Declares}
use Rattle.rules.specs.Typing.{Frame}
use Rattle.rules.specs.Strip.{Reads, Reaches}

-- t is as long as s and has its header; where s reaches an instruction, t has the same one with an exponent of its own, which is allowed (Reads,
-- Stands)
pub record Realigned (s t : List ℕ) (h : Header) : Type 0 where
  pub declares : Declares t h
  pub long : length t ≡ length s
  pub reads : {p n : ℕ} {i : Instr} {c : Code} {fs : List Frame} → Reaches s h p fs → Reads h.version s p i c n
      → (e : ℕ) × Reads h.version t p (aligned e i) c n
