-- Whatever an instruction comes to: it goes on by `go_on`, traps at an access of its own past the memory's end, ends at `end` or is stuck. What is so
-- of these is so of every instruction.
use Prim.Native.Nat.{ℕ, ◌+◌, ◌<◌}
use mathlib.Core.Path.{◌≡◌, refl, ap, sym, ◌∙◌, subst}
use mathlib.Core.Bool.{Bool, true, false, cond}
use mathlib.Core.List.{List, [], ◌∷◌, reverse}
use native.Mathlib.Omega.{arith}
use lib.Dec.{ltb, leb, eqb}
use lib.ListN.{length, get_or}
use borrow.Author.Tests.{leb-false}
use mir.Syntax.{Width, w8, w16, w32, w64, w128}
use mir.Val.{bytes}
use Rattle.operation.specs.Op.{Whole, Widen, Repeat, ZeroPad, Op, Load, LoadLane, Store, StoreLane, Const, Shuffle, Splat, ExtractLane, ReplaceLane, Unary, Binary, Bitselect, Test, Shift}
use Rattle.limits.specs.Limits.{stack_limit}
use Rattle.opcode.specs.Kind.{Kind, kind_byte}
use Rattle.opcode.specs.Table.{Plain, End, Drop, LocalGet, LocalSet, LocalTee, I32Const, I64Const, I32Add, I32Sub, I32Eqz, I32LtU, Code, plain, control, vector}
use Rattle.instr.specs.declared.Instr.{Instr}
use Rattle.machine.specs.Value.{Value, I32, I64, V128, kind_of}
use Rattle.machine.specs.Exec.{State, Outcome, goes, done, trap, stuck, pop_i32, pop_i64, pop_v128, pop_any, pop_scalar, push_scalar, go_on, local, alike, access, of_kinds, exec_plain, exec_vector, exec}
use Rattle.machine.specs.Accesses.{Accesses, load, load_extend, load_splat, load_zero, load_lane, store, store_lane}

module _ (i : Instr) (σ : State) (P : Outcome → Type 0) (sticks : P stuck) (on : (st ls : List Value) (m : List ℕ) → P (go_on st ls m)) where
  -- ---- pops, with what was on the stack

  pop-i32 : (vs : List Value) (f : ℕ → List Value → Outcome) → ((n : ℕ) (ws : List Value) → vs ≡ I32 n ∷ ws → P (f n ws)) → P (pop_i32 vs f)
  unfolding pop_i32
  pop-i32 [] f next = sticks
  pop-i32 (I32 n ∷ vs) f next = next n vs refl
  pop-i32 (I64 n ∷ vs) f next = sticks
  pop-i32 (V128 v ∷ vs) f next = sticks

  pop-i64 : (vs : List Value) (f : ℕ → List Value → Outcome) → ((n : ℕ) (ws : List Value) → P (f n ws)) → P (pop_i64 vs f)
  unfolding pop_i64
  pop-i64 [] f next = sticks
  pop-i64 (I32 n ∷ vs) f next = sticks
  pop-i64 (I64 n ∷ vs) f next = next n vs
  pop-i64 (V128 v ∷ vs) f next = sticks

  pop-v128 : (vs : List Value) (f : List ℕ → List Value → Outcome) → ((v : List ℕ) (ws : List Value) → vs ≡ V128 v ∷ ws → P (f v ws)) → P (pop_v128 vs f)
  unfolding pop_v128
  pop-v128 [] f next = sticks
  pop-v128 (I32 n ∷ vs) f next = sticks
  pop-v128 (I64 n ∷ vs) f next = sticks
  pop-v128 (V128 v ∷ vs) f next = next v vs refl

  pop-any : (vs : List Value) (f : Value → List Value → Outcome) → ((v : Value) (ws : List Value) → P (f v ws)) → P (pop_any vs f)
  unfolding pop_any
  pop-any [] f next = sticks
  pop-any (v ∷ vs) f next = next v vs

  pop-scalar : (w : Width) (vs : List Value) (f : ℕ → List Value → Outcome) → ((n : ℕ) (ws : List Value) → P (f n ws)) → P (pop_scalar w vs f)
  pop-scalar w8 vs f next = pop-i32 vs f (λ n ws e. next n ws)
  pop-scalar w16 vs f next = pop-i32 vs f (λ n ws e. next n ws)
  pop-scalar w32 vs f next = pop-i32 vs f (λ n ws e. next n ws)
  pop-scalar w64 vs f next = pop-i64 vs f next
  pop-scalar w128 vs f next = sticks

  -- ---- locals

  either : (t : Bool) {a b : Outcome} → P a → P b → P (cond t a b)
  either true x y = x
  either false x y = y

  named : (n : ℕ) (f : Value → Outcome) → ((v : Value) → P (f v)) → P (local σ n f)
  unfolding local
  named n f next = either (ltb n (length σ.locals)) (next (get_or σ.locals n (I32 0))) sticks

  same_kind : (v w : Value) {o : Outcome} → P o → P (alike v w o)
  unfolding alike
  same_kind v w next = either (eqb (kind_byte (kind_of v)) (kind_byte (kind_of w))) next sticks

  scalar : (w : Width) (vs : List Value) (x : ℕ) → P (push_scalar w σ vs x)
  scalar w8 vs x = on (I32 x ∷ vs) σ.locals σ.memory
  scalar w16 vs x = on (I32 x ∷ vs) σ.locals σ.memory
  scalar w32 vs x = on (I32 x ∷ vs) σ.locals σ.memory
  scalar w64 vs x = on (I64 x ∷ vs) σ.locals σ.memory
  scalar w128 vs x = sticks

  -- ---- memory

  accessed : (at n : ℕ) {o : Outcome} → (length σ.memory < at + n → P (trap at n)) → P o → P (access σ at n o)
  unfolding access
  accessed at n {o} past next = by (leb (at + n) (length σ.memory)) refl
    where
      by : (t : Bool) → leb (at + n) (length σ.memory) ≡ t → P (cond t o (trap at n))
      by true e = next
      by false e = past (leb-false (at + n) (length σ.memory) e)

  -- what is so of every access of this code that is past the end
  abbrev Traps : Code → Type 0
  Traps c = (a n : ℕ) → Accesses i c σ.stack a n → length σ.memory < a + n → P (trap a n)

  -- its address is on top
  on-top : (c : Code) (n : ℕ) (f : ℕ → List Value → Outcome) → ((x : ℕ) (st : List Value) → Accesses i c (I32 x ∷ st) (x + i.offset) n) → Traps c
      → ((x : ℕ) (st : List Value) → P (f x st)) → P (pop_i32 σ.stack (λ x st. access σ (x + i.offset) n (f x st)))
  on-top c n f is traps next =
      pop-i32 σ.stack _ (λ x st e.
      accessed (x + i.offset) n (traps (x + i.offset) n (subst (λ (vs : List Value). Accesses i c vs (x + i.offset) n) (sym e) (is x st))) (next x st))

  -- or under a vector
  under : (c : Code) (n : ℕ) (f : List ℕ → ℕ → List Value → Outcome)
      → ((v : List ℕ) (x : ℕ) (st : List Value) → Accesses i c (V128 v ∷ I32 x ∷ st) (x + i.offset) n) → Traps c
      → ((v : List ℕ) (x : ℕ) (st : List Value) → P (f v x st)) → P (pop_v128 σ.stack (λ v st. pop_i32 st (λ x st. access σ (x + i.offset) n (f v x st))))
  under c n f is traps next =
      pop-v128 σ.stack _ (λ v st e. pop-i32 st _ (λ x ws q.
      let all : σ.stack ≡ V128 v ∷ I32 x ∷ ws = e ∙ ap (λ (vs : List Value). V128 v ∷ vs) q in
      accessed (x + i.offset) n (traps (x + i.offset) n (subst (λ (vs : List Value). Accesses i c vs (x + i.offset) n) (sym all) (is v x ws)))
      (next v x ws)))

  -- ---- the instructions

  -- what is so of `end` where the stack is the results
  abbrev Ends : List Kind → Code → Type 0
  Ends rs c = c ≡ plain End → of_kinds σ.stack (reverse rs) ≡ true → P (done (reverse σ.stack))

  of_end : (rs : List Kind) → Ends rs (plain End) → P (exec_plain rs End i σ)
  of_end rs ends = by (of_kinds σ.stack (reverse rs)) refl
    where
      by : (t : Bool) → of_kinds σ.stack (reverse rs) ≡ t → P (cond t (done (reverse σ.stack)) stuck)
      by true e = ends refl e
      by false e = sticks

  of_plain : (rs : List Kind) (p : Plain) → Ends rs (plain p) → Traps (plain p) → P (exec_plain rs p i σ)
  of_plain rs End ends traps = of_end rs ends
  of_plain rs Drop ends traps = pop-any σ.stack _ (λ v st. on st _ _)
  of_plain rs LocalGet ends traps = named i.index _ (λ v. on _ _ _)
  of_plain rs LocalSet ends traps = pop-any σ.stack _ (λ v st. named i.index _ (λ w. same_kind v w (on _ _ _)))
  of_plain rs LocalTee ends traps = pop-any σ.stack _ (λ v st. named i.index _ (λ w. same_kind v w (on _ _ _)))
  of_plain rs I32Const ends traps = on _ _ _
  of_plain rs I64Const ends traps = on _ _ _
  of_plain rs I32Add ends traps = pop-i32 σ.stack _ (λ b st e. pop-i32 st _ (λ a st e. on _ _ _))
  of_plain rs I32Sub ends traps = pop-i32 σ.stack _ (λ b st e. pop-i32 st _ (λ a st e. on _ _ _))
  of_plain rs I32Eqz ends traps = pop-i32 σ.stack _ (λ a st e. on _ _ _)
  of_plain rs I32LtU ends traps = pop-i32 σ.stack _ (λ b st e. pop-i32 st _ (λ a st e. on _ _ _))

  of-vector : (o : Op) → Traps (vector o) → P (exec_vector o i σ)
  of-vector (Load Whole) traps = on-top _ 16 _ (λ x st. load) traps (λ x st. on _ _ _)
  of-vector (Load (Widen s w)) traps = on-top _ 8 _ (λ x st. load_extend) traps (λ x st. on _ _ _)
  of-vector (Load (Repeat w)) traps = on-top _ (bytes w) _ (λ x st. load_splat) traps (λ x st. on _ _ _)
  of-vector (Load (ZeroPad w)) traps = on-top _ (bytes w) _ (λ x st. load_zero) traps (λ x st. on _ _ _)
  of-vector (LoadLane w) traps = under _ (bytes w) _ (λ v x st. load_lane) traps (λ v x st. on _ _ _)
  of-vector Store traps = under _ 16 _ (λ v x st. store) traps (λ v x st. on _ _ _)
  of-vector (StoreLane w) traps = under _ (bytes w) _ (λ v x st. store_lane) traps (λ v x st. on _ _ _)
  of-vector Const traps = on _ _ _
  of-vector Shuffle traps = pop-v128 σ.stack _ (λ b st e. pop-v128 st _ (λ a st e. on _ _ _))
  of-vector (Splat w) traps = pop-scalar w σ.stack _ (λ x st. on _ _ _)
  of-vector (ExtractLane s w) traps = pop-v128 σ.stack _ (λ a st e. scalar w st _)
  of-vector (ReplaceLane w) traps = pop-scalar w σ.stack _ (λ x st. pop-v128 st _ (λ a st e. on _ _ _))
  of-vector (Unary o) traps = pop-v128 σ.stack _ (λ a st e. on _ _ _)
  of-vector (Binary o) traps = pop-v128 σ.stack _ (λ b st e. pop-v128 st _ (λ a st e. on _ _ _))
  of-vector Bitselect traps = pop-v128 σ.stack _ (λ m st e. pop-v128 st _ (λ b st e. pop-v128 st _ (λ a st e. on _ _ _)))
  of-vector (Test o) traps = pop-v128 σ.stack _ (λ a st e. on _ _ _)
  of-vector (Shift o) traps = pop-i32 σ.stack _ (λ n st e. pop-v128 st _ (λ a st e. on _ _ _))

  pub of-exec : (rs : List Kind) (c : Code) → Ends rs c → Traps c → P (exec rs c i σ)
  of-exec rs (plain p) ends traps = of_plain rs p ends traps
  of-exec rs (control k) ends traps = sticks
  of-exec rs (vector o) ends traps = of-vector o traps

-- ---- only `end` ends

on-not-done : (st ls : List Value) (m : List ℕ) (vs : List Value) → go_on st ls m ≡ done vs → ⊥
unfolding go_on
on-not-done st ls m vs e = at (ltb stack_limit (length st)) e
  where
    at : (t : Bool) → cond t stuck (goes (record { stack = st; locals = ls; memory = m })) ≡ done vs → ⊥
    at true q = let z : ◌≡◌ {A = ℕ} 0 1 = cc in omega arith
    at false q = let z : ◌≡◌ {A = ℕ} 0 1 = cc in omega arith

pub done-ends : (rs : List Kind) (i : Instr) (σ : State) (c : Code) (vs : List Value) → exec rs c i σ ≡ done vs
    → (c ≡ plain End) × (of_kinds σ.stack (reverse rs) ≡ true) × (reverse σ.stack ≡ vs)
done-ends rs i σ c vs =
    of-exec i σ (λ o. o ≡ done vs → (c ≡ plain End) × (of_kinds σ.stack (reverse rs) ≡ true) × (reverse σ.stack ≡ vs))
    (λ e. absurd (let z : ◌≡◌ {A = ℕ} 0 1 = cc (e) in omega arith)) (λ st ls m e. absurd (on-not-done st ls m vs e)) rs c
    (λ is fit e. (is, fit, cc (e))) (λ a n at l e. absurd (let z : ◌≡◌ {A = ℕ} 0 1 = cc (e) in omega arith))
