-- DEMAND 3, first half: a strip that keeps the rules never gets the standard's machine stuck, from any sound state and after any number of steps.
use Prim.Native.Nat.{ℕ, zero, suc, ◌+◌}
use mathlib.Core.Path.{◌≡◌, refl, ◌∙◌}
use mathlib.Core.List.{List}
use native.Mathlib.Omega.{arith}
use lib.ListN.{length}
use Rattle.machine.specs.Value.{Value}
use Rattle.rules.specs.Header.{Header}
use Rattle.rules.specs.Strip.{Valid}
use Rattle.standard.specs.Standard.{Config, Stage, going, ended, trapped, halted, onward, runs, begin}
use Rattle.standard.specs.Safety.{Given, Sound, Safe, safe_going, safe_ended, safe_trapped}
use Rattle.standard.proofs.Along.{runs-along}
use Rattle.standard.proofs.Turn.{safe-step}
use Rattle.standard.proofs.Begin.{begin-sound}

-- what is safe from where a run has come to is safe from its beginning
safe-from : {s : List ℕ} {h : Header} {b c : Config} (j : ℕ) → runs s h j b ≡ going c → length c.state.memory ≡ length b.state.memory → {g : Stage}
    → Safe s h c g → Safe s h b g
safe-from j e long (safe_going sound l) = safe_going sound (l ∙ long)
safe-from {s} {h} {b} {c} j e long (safe_ended k f sound t kinds range l) =
    safe_ended (j + k) (runs-along s h j k b c e ∙ f) sound t kinds range (l ∙ long)
safe-from {s} {h} {b} {c} j e long (safe_trapped k f sound l t) = safe_trapped (j + k) (runs-along s h j k b c e ∙ f) sound (l ∙ long) t

-- EVERY STEP
pub never_stuck : {s : List ℕ} (v : Valid s) (b : Config) → Sound s v.header b → (k : ℕ) → Safe s v.header b (runs s v.header k b)
unfolding runs
never_stuck v b sound zero = safe_going sound refl
never_stuck {s} v b sound (suc k) = by (runs s v.header k b) refl (never_stuck v b sound k)
  where
    by : (g : Stage) → runs s v.header k b ≡ g → Safe s v.header b g → Safe s v.header b (onward s v.header g)
    by (going c) e (safe_going there long) = safe-from k e long (safe-step v c there)
    by (ended vs m) e safe = safe
    by (trapped a n) e safe = safe
    by halted e safe = elim safe [ ]

-- what is safe is not stuck
pub safe-unhalted : {s : List ℕ} {h : Header} {b : Config} {g : Stage} → Safe s h b g → g ≡ halted → ⊥
safe-unhalted (safe_going sound long) e = let z : ◌≡◌ {A = ℕ} 0 1 = cc in omega arith
safe-unhalted (safe_ended j f sound t kinds range long) e = let z : ◌≡◌ {A = ℕ} 0 1 = cc in omega arith
safe-unhalted (safe_trapped j f sound long t) e = let z : ◌≡◌ {A = ℕ} 0 1 = cc in omega arith

pub never-halted : {s : List ℕ} (v : Valid s) (b : Config) → Sound s v.header b → (k : ℕ) → runs s v.header k b ≡ halted → ⊥
never-halted v b sound k = safe-unhalted (never_stuck v b sound k)

pub never-stuck-from-begin : {s : List ℕ} (v : Valid s) (vs : List Value) (mem : List ℕ) → Given v.header vs mem → (k : ℕ)
    → Safe s v.header (begin v.header vs mem) (runs s v.header k (begin v.header vs mem))
never-stuck-from-begin v vs mem g k = never_stuck v (begin v.header vs mem) (begin-sound v vs mem g) k
