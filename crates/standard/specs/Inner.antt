-- Inner: what only contracts inside the project cite. A block that is closed with so much room for blocks inside it: what a search that recurses into
-- them needs (01, "matching a block with its end recurses on the remaining bytes, with nesting room that falls").
use Rattle.std.specs.Prelude.{ℕ, suc, ◌+◌, ◌≡◌, List}
use Rattle.opcode.specs.Table.{Code}
use Rattle.instr.specs.declared.Instr.{Instr}
use Rattle.rules.specs.Strip.{Reads}
use Rattle.standard.specs.Closing.{role, opener, closer, neither}

pub data ClosesIn (ver : ℕ) (s : List ℕ) : ℕ → ℕ → ℕ → Type 0 where
  closed_in : {room p n : ℕ} {i : Instr} {c : Code} → Reads ver s p i c n → role c ≡ closer → ClosesIn ver s room p (p + n)
  goes_on_in : {room p q n : ℕ} {i : Instr} {c : Code} → Reads ver s p i c n → role c ≡ neither → ClosesIn ver s room (p + n) q → ClosesIn ver s room p q
  over_block_in : {room p q m n : ℕ} {i : Instr} {c : Code} → Reads ver s p i c n → role c ≡ opener → ClosesIn ver s room (p + n) m → ClosesIn ver s (suc room) m q
      → ClosesIn ver s (suc room) p q
