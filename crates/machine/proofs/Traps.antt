-- WHO MAY TRAP: an instruction traps exactly where it accesses bytes and the memory ends before them.
use Prim.Native.Nat.{ℕ, ◌+◌, ◌<◌}
use mathlib.Core.Path.{◌≡◌, refl, ap, ◌∙◌, subst}
use mathlib.Core.Bool.{Bool, cond}
use mathlib.Core.List.{List, ◌∷◌}
use mathlib.Core.Logic.{◌↔◌}
use native.Mathlib.Omega.{arith}
use lib.ListN.{length}
use borrow.Author.Tests.{lt-leb}
use Rattle.opcode.specs.Kind.{Kind}
use Rattle.opcode.specs.Table.{Code, carried}
use Rattle.opcode.specs.Immediate.{moved_by}
use Rattle.instr.specs.declared.Instr.{Instr}
use Rattle.machine.specs.Value.{Value, I32, V128}
use Rattle.machine.specs.Exec.{State, Outcome, trap, pop_i32, pop_v128, access, exec}
use Rattle.machine.specs.Accesses.{Accesses, load, load_extend, load_splat, load_zero, load_lane, store, store_lane}
use Rattle.machine.proofs.Laws.Pops.{on-not-trap}
use Rattle.machine.proofs.Outcomes.{of-exec}

-- the bytes that an instruction accesses are those that the table has for the limit of its alignment exponent (01: "the bytes moved")
pub accesses-moved : {i : Instr} {c : Code} {st : List Value} {a n : ℕ} → Accesses i c st a n → moved_by (carried c) ≡ n
accesses-moved load = refl
accesses-moved load_extend = refl
accesses-moved load_splat = refl
accesses-moved load_zero = refl
accesses-moved load_lane = refl
accesses-moved store = refl
accesses-moved store_lane = refl

takes-i32 : (vs : List Value) (x : ℕ) (st : List Value) (f : ℕ → List Value → Outcome) → vs ≡ I32 x ∷ st → pop_i32 vs f ≡ f x st
unfolding pop_i32
takes-i32 vs x st f e = ap (λ (ws : List Value). pop_i32 ws f) e

takes-v128 : (vs : List Value) (v : List ℕ) (st : List Value) (f : List ℕ → List Value → Outcome) → vs ≡ V128 v ∷ st → pop_v128 vs f ≡ f v st
unfolding pop_v128
takes-v128 vs v st f e = ap (λ (ws : List Value). pop_v128 ws f) e

module _ (rs : List Kind) (i : Instr) (σ : State) where
  past : (at n : ℕ) (o : Outcome) → length σ.memory < at + n → access σ at n o ≡ trap at n
  unfolding access
  past at n o l = ap (λ (t : Bool). cond t o (trap at n)) (lt-leb (at + n) (length σ.memory) l)

  on-top : (x n : ℕ) (st : List Value) (f : ℕ → List Value → Outcome) → σ.stack ≡ I32 x ∷ st → length σ.memory < x + i.offset + n
      → pop_i32 σ.stack (λ x st. access σ (x + i.offset) n (f x st)) ≡ trap (x + i.offset) n
  on-top x n st f e l = takes-i32 σ.stack x st _ e ∙ past (x + i.offset) n (f x st) l

  under : (v : List ℕ) (x n : ℕ) (st : List Value) (f : List ℕ → ℕ → List Value → Outcome) → σ.stack ≡ V128 v ∷ I32 x ∷ st
      → length σ.memory < x + i.offset + n
      → pop_v128 σ.stack (λ v st. pop_i32 st (λ x st. access σ (x + i.offset) n (f v x st))) ≡ trap (x + i.offset) n
  under v x n st f e l = takes-v128 σ.stack v (I32 x ∷ st) _ e ∙ takes-i32 (I32 x ∷ st) x st _ refl ∙ past (x + i.offset) n (f v x st) l

  strays-traps : {c : Code} {st : List Value} {a n : ℕ} → Accesses i c st a n → σ.stack ≡ st → length σ.memory < a + n → exec rs c i σ ≡ trap a n
  strays-traps (load {x} {st}) e l = on-top x 16 st _ e l
  strays-traps (load_extend {x = x} {st}) e l = on-top x 8 st _ e l
  strays-traps (load_splat {x = x} {st}) e l = on-top x _ st _ e l
  strays-traps (load_zero {x = x} {st}) e l = on-top x _ st _ e l
  strays-traps (load_lane {v = v} {x} {st}) e l = under v x _ st _ e l
  strays-traps (store {v} {x} {st}) e l = under v x 16 st _ e l
  strays-traps (store_lane {v = v} {x} {st}) e l = under v x _ st _ e l

  traps-strays : (c : Code) (a n : ℕ) → exec rs c i σ ≡ trap a n → Accesses i c σ.stack a n × (length σ.memory < a + n)
  traps-strays c a n =
      of-exec i σ (λ o. o ≡ trap a n → Accesses i c σ.stack a n × (length σ.memory < a + n))
      (λ e. absurd (let z : ◌≡◌ {A = ℕ} 0 1 = cc (e) in omega arith)) (λ st ls m e. absurd (on-not-trap st ls m a n e)) rs c
      (λ is fit e. absurd (let z : ◌≡◌ {A = ℕ} 0 1 = cc (e) in omega arith))
      (λ b k at l e.
      let ea : b ≡ a = cc (e) in let en : k ≡ n = cc (e) in
      (subst (λ (x : ℕ). Accesses i c σ.stack x n) ea (subst (λ (x : ℕ). Accesses i c σ.stack b x) en at), omega (arith, l, ea, en)))

  -- EXACTLY, and so at one address and size at most
  pub traps-exact : (c : Code) (a n : ℕ) → (exec rs c i σ ≡ trap a n) ↔ (Accesses i c σ.stack a n × (length σ.memory < a + n))
  traps-exact c a n = (traps-strays c a n, λ at. strays-traps at.0 refl at.1)
