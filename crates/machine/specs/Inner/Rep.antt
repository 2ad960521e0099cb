-- Inner: how the code holds a state of the standard's machine: slots of sixteen bytes for the operand stack and the locals, and the memory as it is.
use Rattle.std.specs.Prelude.{ℕ, ◌+◌, ◌*◌, ◌≤◌, ◌<◌, ◌≡◌, List, [], ◌∷◌, length, get_or}
use Rattle.std.specs.Int.{w8}
use Rattle.std.proofs.Common.{Fits}
use Rattle.limits.specs.Limits.{slot, stack_limit, parameter_limit, local_limit}
use Rattle.machine.specs.Value.{Value, I32, AllInRange, bytes_of}
use Rattle.machine.specs.Exec.{State}
use Rattle.machine.specs.Inner.Flat.{slot_at}

-- the top value lies highest
abbrev pub Slots : List Value → List ℕ → Type 0
Slots [] bs = Unit {0}
Slots (v ∷ vs) bs = (slot_at bs (length vs) ≡ bytes_of v) × Slots vs bs

pub record Rep (σ : State) (st : List ℕ) (d : ℕ) (ls m : List ℕ) : Type 0 where
  pub stack_long : length st ≡ slot * stack_limit
  pub locals_long : length ls ≡ slot * (parameter_limit + local_limit)
  pub depth : length σ.stack ≡ d
  pub deep : d ≤ stack_limit
  pub slots : Slots σ.stack st
  pub stack_range : AllInRange σ.stack
  pub few : length σ.locals ≤ parameter_limit + local_limit
  pub held : (k : ℕ) → k < length σ.locals → slot_at ls k ≡ bytes_of (get_or σ.locals k (I32 0))
  pub local_range : AllInRange σ.locals
  pub memory : σ.memory ≡ m
  pub memory_bytes : (k : ℕ) → Fits w8 (get_or m k 0)
