-- Popping from a stack that is held in slots: the value popped lies in the highest slot.
use Prim.Native.Nat.{ℕ, suc, ◌+◌, ◌≤◌, ◌<◌}
use mathlib.Core.Path.{◌≡◌, refl, sym}
use mathlib.Core.Bool.{Bool, true, false, cond}
use mathlib.Core.List.{List, [], ◌∷◌}
use native.Mathlib.Omega.{arith}
use lib.Dec.{leb, ltb, eqb}
use lib.ListN.{length, get_or}
use borrow.Author.Tests.{ltb-true, ltb-false, leb-true, eqb-true}
use mir.Syntax.{Width, w8, w16, w32, w64, w128}
use Rattle.limits.specs.Limits.{stack_limit}
use Rattle.opcode.specs.Kind.{kind_byte}
use Rattle.machine.specs.Value.{Value, I32, I64, V128, kind_of, InRange, AllInRange, bytes_of}
use Rattle.machine.specs.Exec.{State, Outcome, goes, trap, stuck, pop_i32, pop_i64, pop_v128, pop_any, pop_scalar, go_on, local, alike, access}
use Rattle.machine.specs.Inner.Flat.{slot_at}
use Rattle.machine.specs.Inner.Rep.{Slots}
use Rattle.machine.proofs.Laws.Rep.{state}

pub record HasOperands (bs : List ℕ) (vs : List Value) : Type 0 where
  pub slots : Slots vs bs
  pub range : AllInRange vs

-- a value of a kind was popped, and what came next is o
pub record Popped {A : Type 0} (bs : List ℕ) (vs : List Value) (mk : A → Value) (f : A → List Value → Outcome) (o : Outcome) : Type 0 where
  pub value : A
  pub rest : List Value
  pub next : f value rest ≡ o
  pub at : slot_at bs (length rest) ≡ bytes_of (mk value)
  pub ok : InRange (mk value)
  pub under : HasOperands bs rest
  pub long : length vs ≡ suc (length rest)

-- a scalar of a lane's width
abbrev pub scalar_of : Width → ℕ → Value
scalar_of w8 x = I32 x
scalar_of w16 x = I32 x
scalar_of w32 x = I32 x
scalar_of w64 x = I64 x
scalar_of w128 x = I64 x

module _ (bs : List ℕ) (o : Outcome) (moves : o ≡ stuck → ⊥) where
  pub pop-i32 : (vs : List Value) (f : ℕ → List Value → Outcome) → HasOperands bs vs → pop_i32 vs f ≡ o → Popped bs vs I32 f o
  unfolding pop_i32
  pop-i32 [] f h e = absurd (moves (sym e))
  pop-i32 (I32 n ∷ vs) f h e = record { value = n; rest = vs; next = e; at = h.slots.0; ok = h.range.0; under = record { slots = h.slots.1; range = h.range.1 }; long = refl }
  pop-i32 (I64 n ∷ vs) f h e = absurd (moves (sym e))
  pop-i32 (V128 v ∷ vs) f h e = absurd (moves (sym e))

  pub pop-i64 : (vs : List Value) (f : ℕ → List Value → Outcome) → HasOperands bs vs → pop_i64 vs f ≡ o → Popped bs vs I64 f o
  unfolding pop_i64
  pop-i64 [] f h e = absurd (moves (sym e))
  pop-i64 (I32 n ∷ vs) f h e = absurd (moves (sym e))
  pop-i64 (I64 n ∷ vs) f h e = record { value = n; rest = vs; next = e; at = h.slots.0; ok = h.range.0; under = record { slots = h.slots.1; range = h.range.1 }; long = refl }
  pop-i64 (V128 v ∷ vs) f h e = absurd (moves (sym e))

  pub pop-v128 : (vs : List Value) (f : List ℕ → List Value → Outcome) → HasOperands bs vs → pop_v128 vs f ≡ o → Popped bs vs V128 f o
  unfolding pop_v128
  pop-v128 [] f h e = absurd (moves (sym e))
  pop-v128 (I32 n ∷ vs) f h e = absurd (moves (sym e))
  pop-v128 (I64 n ∷ vs) f h e = absurd (moves (sym e))
  pop-v128 (V128 v ∷ vs) f h e = record { value = v; rest = vs; next = e; at = h.slots.0; ok = h.range.0; under = record { slots = h.slots.1; range = h.range.1 }; long = refl }

  pub pop-any : (vs : List Value) (f : Value → List Value → Outcome) → HasOperands bs vs → pop_any vs f ≡ o → Popped bs vs (λ v. v) f o
  unfolding pop_any
  pop-any [] f h e = absurd (moves (sym e))
  pop-any (v ∷ vs) f h e = record { value = v; rest = vs; next = e; at = h.slots.0; ok = h.range.0; under = record { slots = h.slots.1; range = h.range.1 }; long = refl }

  pub pop-scalar : (w : Width) (vs : List Value) (f : ℕ → List Value → Outcome) → HasOperands bs vs → pop_scalar w vs f ≡ o → Popped bs vs (scalar_of w) f o
  pop-scalar w8 vs f h e = pop-i32 vs f h e
  pop-scalar w16 vs f h e = pop-i32 vs f h e
  pop-scalar w32 vs f h e = pop-i32 vs f h e
  pop-scalar w64 vs f h e = pop-i64 vs f h e
  pop-scalar w128 vs f h e = absurd (moves (sym e))

  -- a local that is declared
  pub record Named (c : State) (n : ℕ) (f : Value → Outcome) : Type 0 where
    pub declared : n < length c.locals
    pub next : f (get_or c.locals n (I32 0)) ≡ o

  pub named : (c : State) (n : ℕ) (f : Value → Outcome) → local c n f ≡ o → Named c n f
  unfolding local
  named c n f e = at (ltb n (length c.locals)) refl e
    where
      at : (t : Bool) → ltb n (length c.locals) ≡ t → cond t (f (get_or c.locals n (I32 0))) stuck ≡ o → Named c n f
      at true q e = record { declared = ltb-true n (length c.locals) q; next = e }
      at false q e = absurd (moves (sym e))

  pub same_kind : (v w : Value) (p : Outcome) → alike v w p ≡ o → (kind_byte (kind_of v) ≡ kind_byte (kind_of w)) × (p ≡ o)
  unfolding alike
  same_kind v w p e = at (eqb (kind_byte (kind_of v)) (kind_byte (kind_of w))) refl e
    where
      at : (t : Bool) → eqb (kind_byte (kind_of v)) (kind_byte (kind_of w)) ≡ t → cond t p stuck ≡ o → (kind_byte (kind_of v) ≡ kind_byte (kind_of w)) × (p ≡ o)
      at true q e = (eqb-true (kind_byte (kind_of v)) (kind_byte (kind_of w)) q, e)
      at false q e = absurd (moves (sym e))

-- an instruction that goes on
pub going : (vs ws : List Value) (m : List ℕ) (σ : State) → go_on vs ws m ≡ goes σ → (length vs ≤ stack_limit) × (state vs ws m ≡ σ)
unfolding go_on
going vs ws m σ e = at (ltb stack_limit (length vs)) refl e
  where
    once : (a b : State) → goes a ≡ goes b → a ≡ b
    once a b p = cc

    at : (t : Bool) → ltb stack_limit (length vs) ≡ t → cond t stuck (goes (state vs ws m)) ≡ goes σ → (length vs ≤ stack_limit) × (state vs ws m ≡ σ)
    at true q e = absurd (never e)
      where
        never : stuck ≡ goes σ → ⊥
        never p = let z : ◌≡◌ {A = ℕ} 0 1 = cc in omega arith
    at false q e = (ltb-false stack_limit (length vs) q, once (state vs ws m) σ e)

pub on-not-trap : (vs ws : List Value) (m : List ℕ) (a n : ℕ) → go_on vs ws m ≡ trap a n → ⊥
unfolding go_on
on-not-trap vs ws m a n e = at (ltb stack_limit (length vs)) e
  where
    at : (t : Bool) → cond t stuck (goes (record { stack = vs; locals = ws; memory = m })) ≡ trap a n → ⊥
    at true q = let z : ◌≡◌ {A = ℕ} 0 1 = cc in omega arith
    at false q = let z : ◌≡◌ {A = ℕ} 0 1 = cc in omega arith

-- an access that goes on is in the memory
pub reached : (c : State) (at n : ℕ) (p : Outcome) (σ : State) → access c at n p ≡ goes σ → (at + n ≤ length c.memory) × (p ≡ goes σ)
unfolding access
reached c at n p σ e = go (leb (at + n) (length c.memory)) refl e
  where
    go : (t : Bool) → leb (at + n) (length c.memory) ≡ t → cond t p (trap at n) ≡ goes σ → (at + n ≤ length c.memory) × (p ≡ goes σ)
    go true q e = (leb-true (at + n) (length c.memory) q, e)
    go false q e = absurd (never e)
      where
        never : trap at n ≡ goes σ → ⊥
        never p = let z : ◌≡◌ {A = ℕ} 0 1 = cc in omega arith
