-- The operands of a signature are on the stack, or the standard's machine is stuck. Each pop takes what follows it as a function.
use Prim.Native.Nat.{ℕ}
use mathlib.Core.Path.{◌≡◌, refl, ap₂}
use mathlib.Core.List.{List, [], ◌∷◌, ◌++◌, map, reverse}
use mir.Syntax.{Width, w8, w16, w32, w64, w128}
use Rattle.operation.specs.Op.{Op, Load, LoadLane, Store, StoreLane, Const, Shuffle, Splat, ExtractLane, ReplaceLane, Unary, Binary, Bitselect, Test, Shift}
use Rattle.opcode.specs.Kind.{Kind, i32, i64, v128}
use Rattle.opcode.specs.Effect.{takes, scalar, signature}
use Rattle.instr.specs.declared.Instr.{Instr}
use Rattle.machine.specs.Value.{Value, I32, I64, V128, kind_of}
use Rattle.machine.specs.Exec.{State, Outcome, stuck, pop_i32, pop_i64, pop_v128, pop_scalar, exec_vector}

-- these kinds are on top, or it is stuck
pub data Or (ks : List Kind) (vs : List Value) (o : Outcome) : Type 0 where
  has : (rest : List Kind) → map kind_of vs ≡ ks ++ rest → Or ks vs o
  halts : o ≡ stuck → Or ks vs o

pub all : {vs : List Value} {o : Outcome} → Or [] vs o
all {vs} = has (map kind_of vs) refl

on-top : {ks : List Kind} (k : Kind) {v : Value} {vs : List Value} {o : Outcome} → kind_of v ≡ k → Or ks vs o → Or (k ∷ ks) (v ∷ vs) o
on-top k e (has rest f) = has rest (ap₂ ◌∷◌ e f)
on-top k e (halts f) = halts f

or-i32 : {ks : List Kind} (vs : List Value) (f : ℕ → List Value → Outcome) → ((n : ℕ) (ws : List Value) → Or ks ws (f n ws)) → Or (i32 ∷ ks) vs (pop_i32 vs f)
unfolding pop_i32
or-i32 [] f next = halts refl
or-i32 (I32 n ∷ vs) f next = on-top i32 refl (next n vs)
or-i32 (I64 n ∷ vs) f next = halts refl
or-i32 (V128 v ∷ vs) f next = halts refl

or-i64 : {ks : List Kind} (vs : List Value) (f : ℕ → List Value → Outcome) → ((n : ℕ) (ws : List Value) → Or ks ws (f n ws)) → Or (i64 ∷ ks) vs (pop_i64 vs f)
unfolding pop_i64
or-i64 [] f next = halts refl
or-i64 (I32 n ∷ vs) f next = halts refl
or-i64 (I64 n ∷ vs) f next = on-top i64 refl (next n vs)
or-i64 (V128 v ∷ vs) f next = halts refl

or-v128 : {ks : List Kind} (vs : List Value) (f : List ℕ → List Value → Outcome) → ((v : List ℕ) (ws : List Value) → Or ks ws (f v ws)) → Or (v128 ∷ ks) vs (pop_v128 vs f)
unfolding pop_v128
or-v128 [] f next = halts refl
or-v128 (I32 n ∷ vs) f next = halts refl
or-v128 (I64 n ∷ vs) f next = halts refl
or-v128 (V128 v ∷ vs) f next = on-top v128 refl (next v vs)

or_scalar : {ks : List Kind} (w : Width) (vs : List Value) (f : ℕ → List Value → Outcome) → ((n : ℕ) (ws : List Value) → Or ks ws (f n ws)) → Or (scalar w ∷ ks) vs (pop_scalar w vs f)
or_scalar w8 vs f next = or-i32 vs f next
or_scalar w16 vs f next = or-i32 vs f next
or_scalar w32 vs f next = or-i32 vs f next
or_scalar w64 vs f next = or-i64 vs f next
or_scalar w128 vs f next = halts refl

pub or-number : (vs : List Value) (f : ℕ → List Value → Outcome) → Or (i32 ∷ []) vs (pop_i32 vs f)
or-number vs f = or-i32 vs _ (λ a st. all)

pub or-numbers : (vs : List Value) (f : ℕ → ℕ → List Value → Outcome) → Or (i32 ∷ i32 ∷ []) vs (pop_i32 vs (λ b st. pop_i32 st (λ a st. f a b st)))
or-numbers vs f = or-i32 vs _ (λ b st. or-i32 st _ (λ a st. all))

module _ (i : Instr) (σ : State) where
  pub or-vector : (o : Op) → Or (reverse (takes (signature o))) σ.stack (exec_vector o i σ)
  or-vector (Load l) = or-i32 σ.stack _ (λ a st. all)
  or-vector (LoadLane w) = or-v128 σ.stack _ (λ v st. or-i32 st _ (λ a st. all))
  or-vector Store = or-v128 σ.stack _ (λ v st. or-i32 st _ (λ a st. all))
  or-vector (StoreLane w) = or-v128 σ.stack _ (λ v st. or-i32 st _ (λ a st. all))
  or-vector Const = all
  or-vector Shuffle = or-v128 σ.stack _ (λ b st. or-v128 st _ (λ a st. all))
  or-vector (Splat w) = or_scalar w σ.stack _ (λ x st. all)
  or-vector (ExtractLane s w) = or-v128 σ.stack _ (λ a st. all)
  or-vector (ReplaceLane w) = or_scalar w σ.stack _ (λ x st. or-v128 st _ (λ a st. all))
  or-vector (Unary o) = or-v128 σ.stack _ (λ a st. all)
  or-vector (Binary o) = or-v128 σ.stack _ (λ b st. or-v128 st _ (λ a st. all))
  or-vector Bitselect = or-v128 σ.stack _ (λ m st. or-v128 st _ (λ b st. or-v128 st _ (λ a st. all)))
  or-vector (Test o) = or-v128 σ.stack _ (λ a st. all)
  or-vector (Shift o) = or-i32 σ.stack _ (λ n st. or-v128 st _ (λ a st. all))
