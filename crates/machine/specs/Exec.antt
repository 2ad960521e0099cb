-- The standard's machine, one instruction (Core 2.0, 4.4.1, 4.4.3 to 4.4.5, 4.4.7, 4.4.10). Each instruction pops what it needs, and is stuck
-- where that is not there. No signature is read here, and nothing of the rules.
use Rattle.std.specs.Prelude.{ℕ, ◌+◌, List, [], ◌∷◌, reverse, Bool, true, false, cond, ◌&&◌, eqb, leb, ltb, length, get_or, take, set}
use Rattle.std.specs.Int.{Width, w8, w16, w32, w64, w128}
use Rattle.scalar.specs.Scalar.{iadd, isub}
use Rattle.operation.specs.Op.{Op, Load, LoadLane, Store, StoreLane, Const, Shuffle, Splat, ExtractLane, ReplaceLane, Unary, Binary, Bitselect, Test, Shift, unary, binary, bitselect, test, shift, splat, extracted, replaced, shuffled, loaded, lane_in, lane_out}
use Rattle.limits.specs.Limits.{stack_limit}
use Rattle.opcode.specs.Kind.{Kind, kind_byte}
use Rattle.opcode.specs.Table.{Plain, End, Drop, LocalGet, LocalSet, LocalTee, I32Const, I64Const, I32Add, I32Sub, I32Eqz, I32LtU, Code, plain, control, vector}
use Rattle.opcode.specs.Immediate.{moved}
use Rattle.instr.specs.declared.Instr.{Instr}
use Rattle.machine.specs.Value.{Value, I32, I64, V128, kind_of}
use Rattle.machine.specs.Memory.{part, padded, stored}

-- the operand stack has its top first
pub record State : Type 0 where
  pub stack : List Value
  pub locals : List Value
  pub memory : List ℕ

-- what an instruction leads to
pub data Outcome : Type 0 where
  goes : State → Outcome
  done : List Value → Outcome  -- the results, in the order of the file
  trap : ℕ → ℕ → Outcome  -- an access past the memory's end: its first address, its size
  stuck : Outcome

-- ---- pop and push

unfoldable pub pop_i32 : List Value → (ℕ → List Value → Outcome) → Outcome
pop_i32 [] f = stuck
pop_i32 (I32 n ∷ st) f = f n st
pop_i32 (I64 n ∷ st) f = stuck
pop_i32 (V128 v ∷ st) f = stuck

unfoldable pub pop_i64 : List Value → (ℕ → List Value → Outcome) → Outcome
pop_i64 [] f = stuck
pop_i64 (I32 n ∷ st) f = stuck
pop_i64 (I64 n ∷ st) f = f n st
pop_i64 (V128 v ∷ st) f = stuck

unfoldable pub pop_v128 : List Value → (List ℕ → List Value → Outcome) → Outcome
pop_v128 [] f = stuck
pop_v128 (I32 n ∷ st) f = stuck
pop_v128 (I64 n ∷ st) f = stuck
pop_v128 (V128 v ∷ st) f = f v st

unfoldable pub pop_any : List Value → (Value → List Value → Outcome) → Outcome
pop_any [] f = stuck
pop_any (v ∷ st) f = f v st

-- a lane as a scalar: an i64 of i64x2, else an i32
abbrev pub pop_scalar : Width → List Value → (ℕ → List Value → Outcome) → Outcome
pop_scalar w8 st f = pop_i32 st f
pop_scalar w16 st f = pop_i32 st f
pop_scalar w32 st f = pop_i32 st f
pop_scalar w64 st f = pop_i64 st f
pop_scalar w128 st f = stuck

-- go on; where more values would stand on the stack than it holds, it is full
unfoldable pub go_on : List Value → List Value → List ℕ → Outcome
go_on st ls m = cond (ltb stack_limit (length st)) stuck (goes (record { stack = st; locals = ls; memory = m }))

abbrev pub push : State → List Value → Value → Outcome
push c st v = go_on (v ∷ st) c.locals c.memory

abbrev pub push_scalar : Width → State → List Value → ℕ → Outcome
push_scalar w8 c st x = push c st (I32 x)
push_scalar w16 c st x = push c st (I32 x)
push_scalar w32 c st x = push c st (I32 x)
push_scalar w64 c st x = push c st (I64 x)
push_scalar w128 c st x = stuck

-- ---- locals and memory

-- the local that is named
unfoldable pub local : State → ℕ → (Value → Outcome) → Outcome
local c n f = cond (ltb n (length c.locals)) (f (get_or c.locals n (I32 0))) stuck

-- a local keeps its kind
unfoldable pub alike : Value → Value → Outcome → Outcome
alike v w f = cond (eqb (kind_byte (kind_of v)) (kind_byte (kind_of w))) f stuck

-- n bytes from an address on: in the memory, or a trap
unfoldable pub access : State → ℕ → ℕ → Outcome → Outcome
access c at n f = cond (leb (at + n) (length c.memory)) f (trap at n)

-- ---- the instructions

-- the stack is values of these kinds
unfoldable pub of_kinds : List Value → List Kind → Bool
of_kinds [] [] = true
of_kinds [] (k ∷ ks) = false
of_kinds (v ∷ vs) [] = false
of_kinds (v ∷ vs) (k ∷ ks) = eqb (kind_byte (kind_of v)) (kind_byte k) && of_kinds vs ks

-- address and offset, never wrapped
abbrev pub at : Instr → ℕ → ℕ
at i a = a + i.offset

abbrev pub exec_plain : List Kind → Plain → Instr → State → Outcome
exec_plain rs End i c = cond (of_kinds c.stack (reverse rs)) (done (reverse c.stack)) stuck
exec_plain rs Drop i c = pop_any c.stack (λ v st. go_on st c.locals c.memory)
exec_plain rs LocalGet i c = local c i.index (λ v. push c c.stack v)
exec_plain rs LocalSet i c = pop_any c.stack (λ v st. local c i.index (λ w. alike v w (go_on st (set c.locals i.index v) c.memory)))
exec_plain rs LocalTee i c = pop_any c.stack (λ v st. local c i.index (λ w. alike v w (go_on (v ∷ st) (set c.locals i.index v) c.memory)))
exec_plain rs I32Const i c = push c c.stack (I32 i.word)
exec_plain rs I64Const i c = push c c.stack (I64 i.long)
exec_plain rs I32Add i c = pop_i32 c.stack (λ b st. pop_i32 st (λ a st. push c st (I32 (iadd w32 a b))))
exec_plain rs I32Sub i c = pop_i32 c.stack (λ b st. pop_i32 st (λ a st. push c st (I32 (isub w32 a b))))
exec_plain rs I32Eqz i c = pop_i32 c.stack (λ a st. push c st (I32 (cond (eqb a 0) 1 0)))
exec_plain rs I32LtU i c = pop_i32 c.stack (λ b st. pop_i32 st (λ a st. push c st (I32 (cond (ltb a b) 1 0))))

-- the bytes that an operation moves, read
abbrev pub read : Op → Instr → ℕ → State → List ℕ
read o i a c = padded (part (moved o) (at i a) c.memory)

abbrev pub exec_vector : Op → Instr → State → Outcome
exec_vector (Load l) i c =
    pop_i32 c.stack (λ a st. access c (at i a) (moved (Load l)) (push c st (V128 (loaded l (read (Load l) i a c)))))
exec_vector (LoadLane w) i c =
    pop_v128 c.stack (λ v st. pop_i32 st (λ a st. access c (at i a) (moved (LoadLane w)) (push c st (V128 (lane_in w (read (LoadLane w) i a c) v i.lane)))))
exec_vector Store i c =
    pop_v128 c.stack (λ v st. pop_i32 st (λ a st. access c (at i a) (moved Store) (go_on st c.locals (stored c.memory (at i a) v))))
exec_vector (StoreLane w) i c =
    pop_v128 c.stack (λ v st. pop_i32 st (λ a st. access c (at i a) (moved (StoreLane w)) (go_on st c.locals (stored c.memory (at i a) (take (moved (StoreLane w)) (lane_out w v i.lane))))))
exec_vector Const i c = push c c.stack (V128 i.bytes)
exec_vector Shuffle i c = pop_v128 c.stack (λ b st. pop_v128 st (λ a st. push c st (V128 (shuffled a b i.bytes))))
exec_vector (Splat w) i c = pop_scalar w c.stack (λ x st. push c st (V128 (splat w x)))
exec_vector (ExtractLane s w) i c = pop_v128 c.stack (λ a st. push_scalar w c st (extracted s w a i.lane))
exec_vector (ReplaceLane w) i c = pop_scalar w c.stack (λ x st. pop_v128 st (λ a st. push c st (V128 (replaced w a i.lane x))))
exec_vector (Unary o) i c = pop_v128 c.stack (λ a st. push c st (V128 (unary o a)))
exec_vector (Binary o) i c = pop_v128 c.stack (λ b st. pop_v128 st (λ a st. push c st (V128 (binary o a b))))
exec_vector Bitselect i c = pop_v128 c.stack (λ m st. pop_v128 st (λ b st. pop_v128 st (λ a st. push c st (V128 (bitselect a b m)))))
exec_vector (Test o) i c = pop_v128 c.stack (λ a st. push c st (I32 (test o a)))
exec_vector (Shift o) i c = pop_i32 c.stack (λ n st. pop_v128 st (λ a st. push c st (V128 (shift o a n))))

-- of a strip whose results are of these kinds; what blocks and branches do is said of the whole strip (standard), and by itself each is stuck
abbrev pub exec : List Kind → Code → Instr → State → Outcome
exec rs (plain p) i c = exec_plain rs p i c
exec rs (control k) i c = stuck
exec rs (vector o) i c = exec_vector o i c
