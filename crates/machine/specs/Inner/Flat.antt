-- Inner: the state as the code holds it, and one instruction over that. The operand stack and the locals are slots of sixteen bytes.
use Rattle.std.specs.Prelude.{ℕ, ◌+◌, ◌*◌, ◌-◌, ◌≤◌, ◌≡◌, cond, List, eqb, ltb, length, take}
use Rattle.std.specs.Int.{Width, w8, w16, w32, w64, w128}
use Rattle.scalar.specs.Scalar.{iadd, isub}
use Rattle.operation.specs.Shape.{i32x4, i64x2}
use Rattle.operation.specs.Vector.{lane, le}
use Rattle.operation.specs.Op.{Op, Load, LoadLane, Store, StoreLane, Const, Shuffle, Splat, ExtractLane, ReplaceLane, Unary, Binary, Bitselect, Test, Shift, unary, binary, bitselect, test, shift, splat, extracted, replaced, shuffled, loaded, lane_in, lane_out}
use Rattle.limits.specs.Limits.{slot, stack_limit, stack_bytes}
use Rattle.opcode.specs.Table.{End, Drop, LocalGet, LocalSet, LocalTee, I32Const, I64Const, I32Add, I32Sub, I32Eqz, I32LtU, Plain, Code, plain, control, vector}
use Rattle.opcode.specs.Immediate.{moved}
use Rattle.instr.specs.declared.Instr.{Instr}
use Rattle.machine.specs.Memory.{part, padded, stored}

abbrev pub slot_at : List ℕ → ℕ → List ℕ
slot_at bs n = part slot (slot * n) bs

abbrev pub put_slot : List ℕ → ℕ → List ℕ → List ℕ
put_slot bs n v = stored bs (slot * n) v

-- of d values, the j-th from the top
abbrev pub top_of : List ℕ → ℕ → ℕ → List ℕ
top_of st d j = slot_at st (d - j)

-- a stack of d values, with n there to take
abbrev pub HasOperands : ℕ → List ℕ → ℕ → Type 0
HasOperands n st d = (n ≤ d) × (d ≤ stack_limit) × (length st ≡ stack_bytes)

-- the scalar in a slot
abbrev pub low32 : List ℕ → ℕ
low32 v = lane i32x4 v 0

abbrev pub low64 : List ℕ → ℕ
low64 v = lane i64x2 v 0

abbrev pub lowest : Width → List ℕ → ℕ
lowest w8 v = low32 v
lowest w16 v = low32 v
lowest w32 v = low32 v
lowest w64 v = low64 v
lowest w128 v = low64 v

pub record Flat : Type 0 where
  pub depth : ℕ
  pub stack : List ℕ
  pub locals : List ℕ
  pub memory : List ℕ

abbrev pub flat_of : ℕ → List ℕ → List ℕ → List ℕ → Flat
flat_of d st ls m = record { depth = d; stack = st; locals = ls; memory = m }

abbrev pub flat_plain : Plain → Instr → List ℕ → ℕ → List ℕ → List ℕ → Flat
flat_plain End i st d ls m = flat_of d st ls m
flat_plain Drop i st d ls m = flat_of (d - 1) st ls m
flat_plain LocalGet i st d ls m = flat_of (d + 1) (put_slot st d (slot_at ls i.index)) ls m
flat_plain LocalSet i st d ls m = flat_of (d - 1) st (put_slot ls i.index (top_of st d 1)) m
flat_plain LocalTee i st d ls m = flat_of d st (put_slot ls i.index (top_of st d 1)) m
flat_plain I32Const i st d ls m = flat_of (d + 1) (put_slot st d (le slot i.word)) ls m
flat_plain I64Const i st d ls m = flat_of (d + 1) (put_slot st d (le slot i.long)) ls m
flat_plain I32Add i st d ls m = flat_of (d - 1) (put_slot st (d - 2) (le slot (iadd w32 (low32 (top_of st d 2)) (low32 (top_of st d 1))))) ls m
flat_plain I32Sub i st d ls m = flat_of (d - 1) (put_slot st (d - 2) (le slot (isub w32 (low32 (top_of st d 2)) (low32 (top_of st d 1))))) ls m
flat_plain I32Eqz i st d ls m = flat_of d (put_slot st (d - 1) (le slot (cond (eqb (low32 (top_of st d 1)) 0) 1 0))) ls m
flat_plain I32LtU i st d ls m = flat_of (d - 1) (put_slot st (d - 2) (le slot (cond (ltb (low32 (top_of st d 2)) (low32 (top_of st d 1))) 1 0))) ls m

-- the address in a slot, and the offset
abbrev pub reach : Instr → List ℕ → ℕ
reach i v = low32 v + i.offset

abbrev pub flat_vector : Op → Instr → List ℕ → ℕ → List ℕ → List ℕ → Flat
flat_vector (Load l) i st d ls m = flat_of d (put_slot st (d - 1) (loaded l (padded (part (moved (Load l)) (reach i (top_of st d 1)) m)))) ls m
flat_vector (LoadLane w) i st d ls m =
    flat_of (d - 1) (put_slot st (d - 2) (lane_in w (padded (part (moved (LoadLane w)) (reach i (top_of st d 2)) m)) (top_of st d 1) i.lane)) ls m
flat_vector Store i st d ls m = flat_of (d - 2) st ls (stored m (reach i (top_of st d 2)) (top_of st d 1))
flat_vector (StoreLane w) i st d ls m =
    flat_of (d - 2) st ls (stored m (reach i (top_of st d 2)) (take (moved (StoreLane w)) (lane_out w (top_of st d 1) i.lane)))
flat_vector Const i st d ls m = flat_of (d + 1) (put_slot st d i.bytes) ls m
flat_vector Shuffle i st d ls m = flat_of (d - 1) (put_slot st (d - 2) (shuffled (top_of st d 2) (top_of st d 1) i.bytes)) ls m
flat_vector (Splat w) i st d ls m = flat_of d (put_slot st (d - 1) (splat w (lowest w (top_of st d 1)))) ls m
flat_vector (ExtractLane s w) i st d ls m = flat_of d (put_slot st (d - 1) (le slot (extracted s w (top_of st d 1) i.lane))) ls m
flat_vector (ReplaceLane w) i st d ls m = flat_of (d - 1) (put_slot st (d - 2) (replaced w (top_of st d 2) i.lane (lowest w (top_of st d 1)))) ls m
flat_vector (Unary o) i st d ls m = flat_of d (put_slot st (d - 1) (unary o (top_of st d 1))) ls m
flat_vector (Binary o) i st d ls m = flat_of (d - 1) (put_slot st (d - 2) (binary o (top_of st d 2) (top_of st d 1))) ls m
flat_vector Bitselect i st d ls m = flat_of (d - 2) (put_slot st (d - 3) (bitselect (top_of st d 3) (top_of st d 2) (top_of st d 1))) ls m
flat_vector (Test o) i st d ls m = flat_of d (put_slot st (d - 1) (le slot (test o (top_of st d 1)))) ls m
flat_vector (Shift o) i st d ls m = flat_of (d - 1) (put_slot st (d - 2) (shift o (top_of st d 2) (low32 (top_of st d 1)))) ls m

abbrev pub flat : Code → Instr → List ℕ → ℕ → List ℕ → List ℕ → Flat
flat (plain p) i st d ls m = flat_plain p i st d ls m
flat (control k) i st d ls m = flat_of d st ls m
flat (vector o) i st d ls m = flat_vector o i st d ls m
