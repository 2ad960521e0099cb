-- What 01 says of a run's answer, read off the meter.
use Prim.Native.Nat.{ℕ, zero, suc, ◌+◌, ◌*◌}
use mathlib.Core.Path.{◌≡◌, refl, ap, sym, ◌∙◌, subst}
use mathlib.Core.List.{List}
use mathlib.Core.Option.{Option}
use native.Mathlib.Nat.{add-zero, zero-add}
use native.Mathlib.Omega.{arith}
use lib.ListN.{length, length-map}
use Rattle.card.specs.Card.{DONE, TRAP, BUDGET}
use Rattle.limits.specs.Limits.{slot}
use Rattle.machine.specs.Value.{Value, kind_of, all_bytes}
use Rattle.image.proofs.Held.{all-long}
use Rattle.rules.specs.Header.{Header}
use Rattle.rules.specs.Strip.{Valid}
use Rattle.standard.specs.Standard.{Config, Stage, going, ended, trapped, halted, step, onward, runs}
use Rattle.standard.specs.Safety.{Sound, Safe, safe_going, safe_ended}
use Rattle.standard.proofs.Turn.{safe-step, sound-strays, sound-finishes}
use Rattle.standard.proofs.Along.{one_more}
use Rattle.run.specs.Meter.{leaves, paused, meter, meter_by}
use Rattle.run.specs.Told.{Told, told_done, told_trap, told_budget}

module _ (s : List ℕ) (h : Header) (out : List ℕ) (img : Option (List ℕ)) where
  one : (k n : ℕ) (c : Config) (g : Stage) → step s h c ≡ g → meter s h (suc k) n c out img ≡ meter_by n c out img (λ d. meter s h k (suc n) d out img) g
  unfolding meter
  one k n c g e = ap (meter_by n c out img (λ d. meter s h k (suc n) d out img)) e

  -- what a part of the budget leaves going, the rest takes up
  pub meter-along : (a b n : ℕ) (c d : Config) → runs s h a c ≡ going d → meter s h (a + b) n c out img ≡ meter s h b (n + a) d out img
  unfolding runs
  meter-along zero b n c d e = let same : c ≡ d = cc in let z : n ≡ n + 0 = omega arith in rw (zero-add b, same, ← z)
  meter-along (suc a) b n c d e = go (runs s h a c) refl e (λ x. meter-along a (suc b) n c x)
    where
      go : (g : Stage) → runs s h a c ≡ g → onward s h g ≡ going d → ((x : Config) → runs s h a c ≡ going x → meter s h (a + suc b) n c out img ≡ meter s h (suc b) (n + a) x out img)
          → meter s h (suc a + b) n c out img ≡ meter s h b (n + suc a) d out img
      go (going x) f q r =
          let more : suc a + b ≡ a + suc b = omega arith in let counted : suc (n + a) ≡ n + suc a = omega arith in
          ap (λ (j : ℕ). meter s h j n c out img) more ∙ r x f ∙ one b (n + a) x (going d) q ∙ ap (λ (j : ℕ). meter s h b j d out img) counted
      go (ended vs m) f q r = absurd (let z : ◌≡◌ {A = ℕ} 0 1 = cc in omega arith)
      go (trapped x y) f q r = absurd (let z : ◌≡◌ {A = ℕ} 0 1 = cc in omega arith)
      go halted f q r = absurd (let z : ◌≡◌ {A = ℕ} 0 1 = cc in omega arith)

  -- ---- at every budget

  module _ (b : Config) where
    -- BUDGET, with the memory after that many steps, where the machine is still going
    pub budget-exact : (k : ℕ) (c : Config) → runs s h k b ≡ going c → meter s h k 0 b out img ≡ leaves BUDGET c.place k c.state.memory out (paused c img)
    unfolding meter
    budget-exact k c e = ap (λ (j : ℕ). meter s h j 0 b out img) (sym (add-zero k)) ∙ meter-along k 0 0 b c e ∙ ap (λ (n : ℕ). leaves BUDGET c.place n c.state.memory out (paused c img)) (zero-add k)

    module _ (k : ℕ) (c : Config) (e : runs s h k b ≡ going c) (more : ℕ) where
      next : {g : Stage} → step s h c ≡ g → meter s h (k + suc more) 0 b out img ≡ meter_by k c out img (λ d. meter s h more (suc k) d out img) g
      next {g} q = meter-along k (suc more) 0 b c e ∙ ap (λ (n : ℕ). meter s h (suc more) n c out img) (zero-add k) ∙ one more k c g q

      -- DONE at every budget from there on
      pub done-exact : (vs : List Value) (m : List ℕ) → step s h c ≡ ended vs m → meter s h (k + suc more) 0 b out img ≡ leaves DONE 0 (suc k) m (all_bytes vs) img
      done-exact vs m q = next q

      -- and TRAP
      pub trap-exact : (a n : ℕ) → step s h c ≡ trapped a n → meter s h (k + suc more) 0 b out img ≡ leaves TRAP c.place k c.state.memory out img
      trap-exact a n q = next q

-- ---- from a sound state

module _ {s : List ℕ} (v : Valid s) (b : Config) (out : List ℕ) (img : Option (List ℕ)) (budget : ℕ) where
  abbrev h : Header
  h = v.header

  -- k steps are done, j are left of the budget
  tells : (j k : ℕ) (c : Config) → k + j ≡ budget → runs s h k b ≡ going c → Sound s h c → Told s h b out img budget (meter s h j k c out img)
  unfolding meter
  tells zero k c e r sound =
      let all : k ≡ budget = omega arith in
      subst (λ (n : ℕ). Told s h b out img budget (leaves BUDGET c.place n c.state.memory out (paused c img))) (sym all) (told_budget (subst (λ (n : ℕ). runs s h n b ≡ going c) all r))
  tells (suc j) k c e r sound = go (step s h c) refl (safe-step v c sound) (λ d f D. tells j (suc k) d (omega arith) (one_more s h k b c r ∙ f) D)
    where
      go : (g : Stage) → step s h c ≡ g → Safe s h c g
          → ((d : Config) → step s h c ≡ going d → Sound s h d → Told s h b out img budget (meter s h j (suc k) d out img)) → Told s h b out img budget (meter_by k c out img (λ d. meter s h j (suc k) d out img) g)
      go (going d) f (safe_going D l) on = on d f D
      go (ended vs m) f (safe_ended i g there t kinds range l) on =
          told_done k (omega arith) r f (sound-finishes v c sound f) (all-long vs range ∙ ap (λ (n : ℕ). slot * n) (sym (length-map vs kind_of) ∙ ap length kinds))
      go (trapped a n) f safe on = told_trap k (omega arith) r f (sound-strays v c sound f)
      go halted f safe on = elim safe [ ]

  -- the answer is one of three, and never that the machine is stuck
  pub metered-tells : Sound s h b → Told s h b out img budget (meter s h budget 0 b out img)
  unfolding runs
  metered-tells sound = tells budget 0 b (omega arith) refl sound
