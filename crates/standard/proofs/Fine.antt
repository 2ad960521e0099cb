-- An instruction that is not stuck: it goes on with these kinds on the stack, or traps past the memory's end. Each pop takes what follows it as a
-- function.
use Prim.Native.Nat.{ℕ, ◌+◌, ◌^◌, ◌≤◌, ◌<◌}
use mathlib.Core.Path.{◌≡◌, refl, ap}
use mathlib.Core.Bool.{Bool, true, false, cond}
use mathlib.Core.List.{List, [], ◌∷◌, map}
use native.Mathlib.Omega.{arith}
use lib.Dec.{T, leb}
use lib.ListN.{length, get_or, length-map}
use borrow.Author.Tests.{eq-eqb, lt-ltb, le-ltb, leb-true, leb-false}
use mir.Syntax.{Width, w8, w16, w32, w64, w128}
use Rattle.operation.specs.Vector.{Sixteen}
use Rattle.operation.proofs.Laws.Number.{Bytes}
use Rattle.limits.specs.Limits.{stack_limit}
use Rattle.opcode.specs.Kind.{Kind, i32, i64, v128, kind_byte}
use Rattle.opcode.specs.Effect.{scalar}
use Rattle.machine.specs.Value.{Value, I32, I64, V128, kind_of, InRange, AllInRange}
use Rattle.machine.specs.Exec.{State, Outcome, goes, trap, pop_i32, pop_i64, pop_v128, pop_any, pop_scalar, go_on, local, alike, access}
use Rattle.standard.proofs.Scalars.{narrow}

-- values of these kinds, the top first, and in range
pub record Under (ks : List Kind) (vs : List Value) : Type 0 where
  pub kinds : map kind_of vs ≡ ks
  pub range : AllInRange vs

-- the state that the instruction leaves
pub record Kept (σ : State) (κs : List Kind) (τ : State) : Type 0 where
  pub stack : Under κs τ.stack
  pub locals : Under (map kind_of σ.locals) τ.locals
  pub memory : Bytes τ.memory
  pub long : length τ.memory ≡ length σ.memory

pub data Fine (σ : State) (κs : List Kind) : Outcome → Type 0 where
  on : {τ : State} → Kept σ κs τ → Fine σ κs (goes τ)
  past : {a n : ℕ} → length σ.memory < a + n → Fine σ κs (trap a n)

module _ {σ : State} {κs : List Kind} where
  -- ---- pops

  pub pop-i32 : {ks : List Kind} (vs : List Value) (f : ℕ → List Value → Outcome) → Under (i32 ∷ ks) vs
      → ((n : ℕ) (ws : List Value) → n < 2 ^ 32 → Under ks ws → Fine σ κs (f n ws)) → Fine σ κs (pop_i32 vs f)
  unfolding pop_i32
  pop-i32 [] f u next = absurd (let z : ◌≡◌ {A = ℕ} 0 1 = cc u.kinds in omega arith)
  pop-i32 (I32 n ∷ vs) f u next = next n vs u.range.0 (record { kinds = cc u.kinds; range = u.range.1 })
  pop-i32 (I64 n ∷ vs) f u next = absurd (let z : ◌≡◌ {A = ℕ} 0 1 = cc u.kinds in omega arith)
  pop-i32 (V128 v ∷ vs) f u next = absurd (let z : ◌≡◌ {A = ℕ} 0 1 = cc u.kinds in omega arith)

  pub pop-i64 : {ks : List Kind} (vs : List Value) (f : ℕ → List Value → Outcome) → Under (i64 ∷ ks) vs
      → ((n : ℕ) (ws : List Value) → Under ks ws → Fine σ κs (f n ws)) → Fine σ κs (pop_i64 vs f)
  unfolding pop_i64
  pop-i64 [] f u next = absurd (let z : ◌≡◌ {A = ℕ} 0 1 = cc u.kinds in omega arith)
  pop-i64 (I32 n ∷ vs) f u next = absurd (let z : ◌≡◌ {A = ℕ} 0 1 = cc u.kinds in omega arith)
  pop-i64 (I64 n ∷ vs) f u next = next n vs (record { kinds = cc u.kinds; range = u.range.1 })
  pop-i64 (V128 v ∷ vs) f u next = absurd (let z : ◌≡◌ {A = ℕ} 0 1 = cc u.kinds in omega arith)

  pub pop-v128 : {ks : List Kind} (vs : List Value) (f : List ℕ → List Value → Outcome) → Under (v128 ∷ ks) vs
      → ((v : List ℕ) (ws : List Value) → Sixteen v → Under ks ws → Fine σ κs (f v ws)) → Fine σ κs (pop_v128 vs f)
  unfolding pop_v128
  pop-v128 [] f u next = absurd (let z : ◌≡◌ {A = ℕ} 0 1 = cc u.kinds in omega arith)
  pop-v128 (I32 n ∷ vs) f u next = absurd (let z : ◌≡◌ {A = ℕ} 0 1 = cc u.kinds in omega arith)
  pop-v128 (I64 n ∷ vs) f u next = absurd (let z : ◌≡◌ {A = ℕ} 0 1 = cc u.kinds in omega arith)
  pop-v128 (V128 v ∷ vs) f u next = next v vs u.range.0 (record { kinds = cc u.kinds; range = u.range.1 })

  pub pop-any : {k : Kind} {ks : List Kind} (vs : List Value) (f : Value → List Value → Outcome) → Under (k ∷ ks) vs
      → ((v : Value) (ws : List Value) → kind_of v ≡ k → InRange v → Under ks ws → Fine σ κs (f v ws)) → Fine σ κs (pop_any vs f)
  unfolding pop_any
  pop-any [] f u next = absurd (let z : ◌≡◌ {A = ℕ} 0 1 = cc u.kinds in omega arith)
  pop-any (v ∷ vs) f u next = next v vs (cc u.kinds) u.range.0 (record { kinds = cc u.kinds; range = u.range.1 })

  pub pop-scalar : {ks : List Kind} (w : Width) → T (narrow w) → (vs : List Value) (f : ℕ → List Value → Outcome) → Under (scalar w ∷ ks) vs
      → ((n : ℕ) (ws : List Value) → Under ks ws → Fine σ κs (f n ws)) → Fine σ κs (pop_scalar w vs f)
  pop-scalar w8 t vs f u next = pop-i32 vs f u (λ n ws l d. next n ws d)
  pop-scalar w16 t vs f u next = pop-i32 vs f u (λ n ws l d. next n ws d)
  pop-scalar w32 t vs f u next = pop-i32 vs f u (λ n ws l d. next n ws d)
  pop-scalar w64 t vs f u next = pop-i64 vs f u next
  pop-scalar w128 t vs f u next = absurd t

  -- ---- locals and memory

  pub named : (n : ℕ) (f : Value → Outcome) → n < length σ.locals → Fine σ κs (f (get_or σ.locals n (I32 0))) → Fine σ κs (local σ n f)
  unfolding local
  named n f l next = rw (lt-ltb n (length σ.locals) l) next

  pub same_kind : (v w : Value) (o : Outcome) → kind_of v ≡ kind_of w → Fine σ κs o → Fine σ κs (alike v w o)
  unfolding alike
  same_kind v w o e next = rw (eq-eqb (kind_byte (kind_of v)) (kind_byte (kind_of w)) (ap kind_byte e)) next

  pub accessed : (at n : ℕ) (o : Outcome) → (at + n ≤ length σ.memory → Fine σ κs o) → Fine σ κs (access σ at n o)
  unfolding access
  accessed at n o next = go (leb (at + n) (length σ.memory)) refl
    where
      go : (t : Bool) → leb (at + n) (length σ.memory) ≡ t → Fine σ κs (cond t o (trap at n))
      go true e = next (leb-true (at + n) (length σ.memory) e)
      go false e = past (leb-false (at + n) (length σ.memory) e)

  -- ---- going on

  pub goes_on : (vs ws : List Value) (m : List ℕ) → length κs ≤ stack_limit → Under κs vs → Under (map kind_of σ.locals) ws → Bytes m → length m ≡ length σ.memory → Fine σ κs (go_on vs ws m)
  unfolding go_on
  goes_on vs ws m room u l b e =
      rw (le-ltb stack_limit (length vs) (omega (arith, room, length-map vs kind_of, ap length u.kinds))) (on (record { stack = u; locals = l; memory = b; long = e }))
