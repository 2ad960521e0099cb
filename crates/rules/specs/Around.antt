-- The blocks around a place of a strip (Core 2.0, 3.3.8): where the body of each begins, the innermost first. They follow from the bytes before the
-- place alone, so an image need not hold them (02, C-14).
use Rattle.std.specs.Prelude.{ℕ, ◌+◌, ◌≡◌, List, [], ◌∷◌, length}
use Rattle.opcode.specs.Table.{End, Code, plain}
use Rattle.instr.specs.declared.Instr.{Instr}
use Rattle.rules.specs.Header.{Header, Declares, header_bytes}
use Rattle.rules.specs.Typing.{Opens}
use Rattle.rules.specs.Strip.{Reads}

pub data Around (s : List ℕ) (h : Header) : ℕ → List ℕ → Type 0 where
  around_none : Declares s h → Around s h (length (header_bytes h)) []
  -- after `block` or `loop` its body begins
  begun : {p n : ℕ} {i : Instr} {c : Code} {bs : List ℕ} → Around s h p bs → Reads h.version s p i c n → Opens c → Around s h (p + n) ((p + n) ∷ bs)
  -- `end` closes the innermost
  ended : {p n b : ℕ} {i : Instr} {bs : List ℕ} → Around s h p (b ∷ bs) → Reads h.version s p i (plain End) n → Around s h (p + n) bs
  -- no other opens or closes one
  same : {p n : ℕ} {i : Instr} {c : Code} {bs : List ℕ} → Around s h p bs → Reads h.version s p i c n → (Opens c → ⊥) → (c ≡ plain End → ⊥)
      → Around s h (p + n) bs
