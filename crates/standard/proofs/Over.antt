-- What an instruction does to the values above a label it does to them over any values: for a run whose stack is one flat array, labels or not.
use Prim.Native.Nat.{ℕ, ◌+◌, ◌≤◌}
use mathlib.Core.Path.{◌≡◌, refl, ap}
use mathlib.Core.Bool.{Bool, true, false, cond}
use mathlib.Core.List.{List, [], ◌∷◌, ◌++◌}
use native.Mathlib.Omega.{arith}
use lib.Dec.{ltb, leb, eqb}
use lib.ListN.{length, get_or, length-append}
use borrow.Author.Tests.{le-ltb}
use mir.Syntax.{Width, w8, w16, w32, w64, w128}
use Rattle.operation.specs.Op.{Op, Load, LoadLane, Store, StoreLane, Const, Shuffle, Splat, ExtractLane, ReplaceLane, Unary, Binary, Bitselect, Test, Shift}
use Rattle.limits.specs.Limits.{stack_limit}
use Rattle.opcode.specs.Kind.{Kind, kind_byte}
use Rattle.opcode.specs.Table.{Plain, End, Drop, LocalGet, LocalSet, LocalTee, I32Const, I64Const, I32Add, I32Sub, I32Eqz, I32LtU, Code, plain, control, vector}
use Rattle.instr.specs.declared.Instr.{Instr}
use Rattle.machine.specs.Value.{Value, I32, I64, V128, kind_of}
use Rattle.machine.specs.Exec.{State, Outcome, goes, trap, stuck, pop_i32, pop_i64, pop_v128, pop_any, pop_scalar, push_scalar, go_on, local, alike, access, exec_plain, exec_vector, exec}
use Rattle.standard.specs.Standard.{with_stack}

-- with u under all: goes on to the same over u, as far as the stack holds it; traps alike
pub data Over (u : List Value) : Outcome → Outcome → Type 0 where
  over-stuck : {o : Outcome} → Over u stuck o
  over-trap : {a n : ℕ} → Over u (trap a n) (trap a n)
  over-goes : {τ : State} {o : Outcome} → (length τ.stack + length u ≤ stack_limit → o ≡ goes (with_stack τ (τ.stack ++ u))) → Over u (goes τ) o

module _ (u : List Value) where
  pop-i32 : (vs : List Value) (f g : ℕ → List Value → Outcome) → ((n : ℕ) (ws : List Value) → Over u (f n ws) (g n (ws ++ u))) → Over u (pop_i32 vs f) (pop_i32 (vs ++ u) g)
  unfolding pop_i32
  pop-i32 [] f g next = over-stuck
  pop-i32 (I32 n ∷ vs) f g next = next n vs
  pop-i32 (I64 n ∷ vs) f g next = over-stuck
  pop-i32 (V128 v ∷ vs) f g next = over-stuck

  pop-i64 : (vs : List Value) (f g : ℕ → List Value → Outcome) → ((n : ℕ) (ws : List Value) → Over u (f n ws) (g n (ws ++ u))) → Over u (pop_i64 vs f) (pop_i64 (vs ++ u) g)
  unfolding pop_i64
  pop-i64 [] f g next = over-stuck
  pop-i64 (I32 n ∷ vs) f g next = over-stuck
  pop-i64 (I64 n ∷ vs) f g next = next n vs
  pop-i64 (V128 v ∷ vs) f g next = over-stuck

  pop-v128 : (vs : List Value) (f g : List ℕ → List Value → Outcome) → ((v : List ℕ) (ws : List Value) → Over u (f v ws) (g v (ws ++ u))) → Over u (pop_v128 vs f) (pop_v128 (vs ++ u) g)
  unfolding pop_v128
  pop-v128 [] f g next = over-stuck
  pop-v128 (I32 n ∷ vs) f g next = over-stuck
  pop-v128 (I64 n ∷ vs) f g next = over-stuck
  pop-v128 (V128 v ∷ vs) f g next = next v vs

  pop-any : (vs : List Value) (f g : Value → List Value → Outcome) → ((v : Value) (ws : List Value) → Over u (f v ws) (g v (ws ++ u))) → Over u (pop_any vs f) (pop_any (vs ++ u) g)
  unfolding pop_any
  pop-any [] f g next = over-stuck
  pop-any (v ∷ vs) f g next = next v vs

  pop-scalar : (w : Width) (vs : List Value) (f g : ℕ → List Value → Outcome) → ((n : ℕ) (ws : List Value) → Over u (f n ws) (g n (ws ++ u))) → Over u (pop_scalar w vs f) (pop_scalar w (vs ++ u) g)
  pop-scalar w8 vs f g next = pop-i32 vs f g next
  pop-scalar w16 vs f g next = pop-i32 vs f g next
  pop-scalar w32 vs f g next = pop-i32 vs f g next
  pop-scalar w64 vs f g next = pop-i64 vs f g next
  pop-scalar w128 vs f g next = over-stuck

  goes_on : (vs ws : List Value) (m : List ℕ) → Over u (go_on vs ws m) (go_on (vs ++ u) ws m)
  unfolding go_on
  goes_on vs ws m = by (ltb stack_limit (length vs))
    where
      by : (t : Bool) → Over u (cond t stuck (goes (record { stack = vs; locals = ws; memory = m })))
          (cond (ltb stack_limit (length (vs ++ u))) stuck (goes (record { stack = vs ++ u; locals = ws; memory = m })))
      by true = over-stuck
      by false =
          over-goes {τ = record { stack = vs; locals = ws; memory = m }} (λ l. ap (λ (t : Bool). cond t stuck (goes (record { stack = vs ++ u; locals = ws; memory = m })))
          (le-ltb stack_limit (length (vs ++ u)) (omega (arith, l, length-append vs u))))

  module _ (i : Instr) (σ : State) where
    abbrev whole : State
    whole = with_stack σ (σ.stack ++ u)

    named : (n : ℕ) (f g : Value → Outcome) → ((v : Value) → Over u (f v) (g v)) → Over u (local σ n f) (local whole n g)
    unfolding local
    named n f g next = by (ltb n (length σ.locals))
      where
        by : (t : Bool) → Over u (cond t (f (get_or σ.locals n (I32 0))) stuck) (cond t (g (get_or σ.locals n (I32 0))) stuck)
        by true = next (get_or σ.locals n (I32 0))
        by false = over-stuck

    same_kind : (v w : Value) (o o' : Outcome) → Over u o o' → Over u (alike v w o) (alike v w o')
    unfolding alike
    same_kind v w o o' next = by (eqb (kind_byte (kind_of v)) (kind_byte (kind_of w)))
      where
        by : (t : Bool) → Over u (cond t o stuck) (cond t o' stuck)
        by true = next
        by false = over-stuck

    accessed : (at n : ℕ) (o o' : Outcome) → Over u o o' → Over u (access σ at n o) (access whole at n o')
    unfolding access
    accessed at n o o' next = by (leb (at + n) (length σ.memory))
      where
        by : (t : Bool) → Over u (cond t o (trap at n)) (cond t o' (trap at n))
        by true = next
        by false = over-trap

    scalar : (w : Width) (vs : List Value) (x : ℕ) → Over u (push_scalar w σ vs x) (push_scalar w whole (vs ++ u) x)
    scalar w8 vs x = goes_on (I32 x ∷ vs) σ.locals σ.memory
    scalar w16 vs x = goes_on (I32 x ∷ vs) σ.locals σ.memory
    scalar w32 vs x = goes_on (I32 x ∷ vs) σ.locals σ.memory
    scalar w64 vs x = goes_on (I64 x ∷ vs) σ.locals σ.memory
    scalar w128 vs x = over-stuck

    over_plain : (rs : List Kind) (p : Plain) → (plain p ≡ plain End → ⊥) → Over u (exec_plain rs p i σ) (exec_plain rs p i whole)
    over_plain rs End d = absurd (d refl)
    over_plain rs Drop d = pop-any σ.stack _ _ (λ v st. goes_on st σ.locals σ.memory)
    over_plain rs LocalGet d = named i.index _ _ (λ v. goes_on (v ∷ σ.stack) σ.locals σ.memory)
    over_plain rs LocalSet d = pop-any σ.stack _ _ (λ v st. named i.index _ _ (λ w. same_kind v w _ _ (goes_on st _ σ.memory)))
    over_plain rs LocalTee d = pop-any σ.stack _ _ (λ v st. named i.index _ _ (λ w. same_kind v w _ _ (goes_on (v ∷ st) _ σ.memory)))
    over_plain rs I32Const d = goes_on (I32 i.word ∷ σ.stack) σ.locals σ.memory
    over_plain rs I64Const d = goes_on (I64 i.long ∷ σ.stack) σ.locals σ.memory
    over_plain rs I32Add d = pop-i32 σ.stack _ _ (λ b st. pop-i32 st _ _ (λ a st. goes_on (I32 _ ∷ st) σ.locals σ.memory))
    over_plain rs I32Sub d = pop-i32 σ.stack _ _ (λ b st. pop-i32 st _ _ (λ a st. goes_on (I32 _ ∷ st) σ.locals σ.memory))
    over_plain rs I32Eqz d = pop-i32 σ.stack _ _ (λ a st. goes_on (I32 _ ∷ st) σ.locals σ.memory)
    over_plain rs I32LtU d = pop-i32 σ.stack _ _ (λ b st. pop-i32 st _ _ (λ a st. goes_on (I32 _ ∷ st) σ.locals σ.memory))

    over-vector : (o : Op) → Over u (exec_vector o i σ) (exec_vector o i whole)
    over-vector (Load l) = pop-i32 σ.stack _ _ (λ a st. accessed _ _ _ _ (goes_on (V128 _ ∷ st) σ.locals σ.memory))
    over-vector (LoadLane w) = pop-v128 σ.stack _ _ (λ v st. pop-i32 st _ _ (λ a st. accessed _ _ _ _ (goes_on (V128 _ ∷ st) σ.locals σ.memory)))
    over-vector Store = pop-v128 σ.stack _ _ (λ v st. pop-i32 st _ _ (λ a st. accessed _ _ _ _ (goes_on st σ.locals _)))
    over-vector (StoreLane w) = pop-v128 σ.stack _ _ (λ v st. pop-i32 st _ _ (λ a st. accessed _ _ _ _ (goes_on st σ.locals _)))
    over-vector Const = goes_on (V128 i.bytes ∷ σ.stack) σ.locals σ.memory
    over-vector Shuffle = pop-v128 σ.stack _ _ (λ b st. pop-v128 st _ _ (λ a st. goes_on (V128 _ ∷ st) σ.locals σ.memory))
    over-vector (Splat w) = pop-scalar w σ.stack _ _ (λ x st. goes_on (V128 _ ∷ st) σ.locals σ.memory)
    over-vector (ExtractLane s w) = pop-v128 σ.stack _ _ (λ a st. scalar w st _)
    over-vector (ReplaceLane w) = pop-scalar w σ.stack _ _ (λ x st. pop-v128 st _ _ (λ a st. goes_on (V128 _ ∷ st) σ.locals σ.memory))
    over-vector (Unary o) = pop-v128 σ.stack _ _ (λ a st. goes_on (V128 _ ∷ st) σ.locals σ.memory)
    over-vector (Binary o) = pop-v128 σ.stack _ _ (λ b st. pop-v128 st _ _ (λ a st. goes_on (V128 _ ∷ st) σ.locals σ.memory))
    over-vector Bitselect = pop-v128 σ.stack _ _ (λ m st. pop-v128 st _ _ (λ b st. pop-v128 st _ _ (λ a st. goes_on (V128 _ ∷ st) σ.locals σ.memory)))
    over-vector (Test o) = pop-v128 σ.stack _ _ (λ a st. goes_on (I32 _ ∷ st) σ.locals σ.memory)
    over-vector (Shift o) = pop-i32 σ.stack _ _ (λ n st. pop-v128 st _ _ (λ a st. goes_on (V128 _ ∷ st) σ.locals σ.memory))

    pub over : (rs : List Kind) (c : Code) → (c ≡ plain End → ⊥) → Over u (exec rs c i σ) (exec rs c i whole)
    over rs (plain p) d = over_plain rs p d
    over rs (control k) d = over-stuck
    over rs (vector o) d = over-vector o
