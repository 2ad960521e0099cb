-- The `end` that closes a block, found from the bytes (Core 2.0, 5.4.1: `block` and `loop` stand before an `end` of their own). It is looked for at a
-- branch and not before, so that what stands after a block is not asked until a branch passes over it.
use Rattle.std.specs.Prelude.{ℕ, zero, suc, ◌+◌, ◌≡◌, Bool, true, false, cond, List, eqb, length}
use Rattle.std.proofs.Math.Option.{Option, none, some}
use Rattle.card.specs.Card.{DONE}
use Rattle.opcode.specs.Table.{Plain, End, Drop, LocalGet, LocalSet, LocalTee, I32Const, I64Const, I32Add, I32Sub, I32Eqz, I32LtU, Block, Loop, Br, BrIf, Code, plain, control, vector, Row, carried, float, unassigned}
use Rattle.instr.specs.declared.Instr.{Instr}
use Rattle.instr.specs.declared.Decoded.{Decoded}
use Rattle.instr.specs.Layout.{row_in}
use Rattle.instr.specs.Decode.{decode_at}
use Rattle.rules.specs.Strip.{Reads}

abbrev pub is_end : Plain → Bool
is_end End = true
is_end Drop = false
is_end LocalGet = false
is_end LocalSet = false
is_end LocalTee = false
is_end I32Const = false
is_end I64Const = false
is_end I32Add = false
is_end I32Sub = false
is_end I32Eqz = false
is_end I32LtU = false

-- what an instruction does to the nesting
pub data Role : Type 0 where
  opener : Role
  closer : Role
  neither : Role

abbrev pub role : Code → Role
role (plain p) = cond (is_end p) closer neither
role (control Block) = opener
role (control Loop) = opener
role (control Br) = neither
role (control BrIf) = neither
role (vector o) = neither

-- the block whose body begins at p, or goes on there, is closed by the `end` before q; close, below, finds that and nothing else (proofs/Closings,
-- close-exact, close-none)
pub data Closes (ver : ℕ) (s : List ℕ) : ℕ → ℕ → Type 0 where
  closed : {p n : ℕ} {i : Instr} {c : Code} → Reads ver s p i c n → role c ≡ closer → Closes ver s p (p + n)
  goes_on : {p q n : ℕ} {i : Instr} {c : Code} → Reads ver s p i c n → role c ≡ neither → Closes ver s (p + n) q → Closes ver s p q
  over_block : {p q m n : ℕ} {i : Instr} {c : Code} → Reads ver s p i c n → role c ≡ opener → Closes ver s (p + n) m → Closes ver s m q → Closes ver s p q

-- ---- the same as a function: n blocks inside it are open, f goes on with so many from the place after the instruction

abbrev pub close_role : Role → ℕ → ℕ → (ℕ → ℕ → Option ℕ) → Option ℕ
close_role opener n q f = f (suc n) q
close_role closer zero q f = some q
close_role closer (suc n) q f = f n q
close_role neither n q f = f n q

abbrev pub close_row : Row → ℕ → ℕ → (ℕ → ℕ → Option ℕ) → Option ℕ
close_row (carried c) n q f = close_role (role c) n q f
close_row float n q f = none
close_row unassigned n q f = none

abbrev pub close_after : ℕ → ℕ → ℕ → Decoded → (ℕ → ℕ → Option ℕ) → Option ℕ
close_after ver n p d f = cond (eqb d.code DONE) (close_row (row_in ver d.instr) n (p + d.len) f) none

-- over so many instructions at most
unfoldable pub close_within : ℕ → ℕ → List ℕ → ℕ → ℕ → Option ℕ
close_within zero ver s n p = none
close_within (suc k) ver s n p = close_after ver n p (decode_at ver s p) (close_within k ver s)

-- the place after the `end` of the block whose body begins at p: a strip has no more instructions than bytes
abbrev pub close : ℕ → List ℕ → ℕ → Option ℕ
close ver s p = close_within (length s) ver s 0 p
