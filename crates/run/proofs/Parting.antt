-- What is left by a meter: it does not hang on the image's buffer nor on where the count begins, and after an end a larger budget changes nothing.
use Prim.Native.Nat.{ℕ, zero, suc, ◌+◌}
use mathlib.Core.Path.{◌≡◌, refl, ap, sym, ◌∙◌, subst}
use mathlib.Core.List.{List}
use mathlib.Core.Option.{Option}
use native.Mathlib.Nat.{add-suc, suc-add}
use native.Mathlib.Omega.{arith}
use Rattle.card.specs.Card.{DONE, TRAP, BUDGET}
use Rattle.rules.specs.Header.{Header}
use Rattle.standard.specs.Standard.{Config, Stage, going, ended, trapped, halted, step, runs}
use Rattle.standard.proofs.Along.{no_steps, runs-along, one_more}
use Rattle.run.specs.Meter.{Left, STUCK, meter, meter_by}

-- the same is answered and left, but for the steps, which are n more, and for the image's buffer
pub record Further (n : ℕ) (x y : Left) : Type 0 where
  pub code : y.answer.code ≡ x.answer.code
  pub place : y.answer.place ≡ x.answer.place
  pub steps : y.answer.steps ≡ n + x.answer.steps
  pub memory : y.memory ≡ x.memory
  pub results : y.results ≡ x.results

module _ (s : List ℕ) (h : Header) (out : List ℕ) where
  module _ (img img' : Option (List ℕ)) (n : ℕ) where
    pub meter-further : (k m : ℕ) (c : Config) → Further n (meter s h k m c out img) (meter s h k (n + m) c out img')
    unfolding meter
    meter-further zero m c = record { code = refl; place = refl; steps = refl; memory = refl; results = refl }
    meter-further (suc k) m c = by (step s h c) (meter-further k (suc m))
      where
        by : (g : Stage) → ((d : Config) → Further n (meter s h k (suc m) d out img) (meter s h k (n + suc m) d out img'))
            → Further n (meter_by m c out img (λ d. meter s h k (suc m) d out img) g) (meter_by (n + m) c out img' (λ d. meter s h k (suc (n + m)) d out img') g)
        by (going d) more = subst (λ (j : ℕ). Further n (meter s h k (suc m) d out img) (meter s h k j d out img')) (add-suc n m) (more d)
        by (ended vs mem) more = record { code = refl; place = refl; steps = sym (add-suc n m); memory = refl; results = refl }
        by (trapped a j) more = record { code = refl; place = refl; steps = refl; memory = refl; results = refl }
        by halted more = record { code = refl; place = refl; steps = refl; memory = refl; results = refl }

  module _ (img : Option (List ℕ)) where
    -- an end stays
    pub meter-over : (k j n : ℕ) (c : Config) → ((meter s h k n c out img).answer.code ≡ BUDGET → ⊥) → meter s h (k + j) n c out img ≡ meter s h k n c out img
    unfolding meter
    meter-over zero j n c ne = absurd (ne refl)
    meter-over (suc k) j n c ne =
        ap (λ (i : ℕ). meter s h i n c out img) (suc-add k j) ∙ by (step s h c) (meter-over k j (suc n)) ne
      where
        by : (g : Stage)
            → ((d : Config) → ((meter s h k (suc n) d out img).answer.code ≡ BUDGET → ⊥) → meter s h (k + j) (suc n) d out img ≡ meter s h k (suc n) d out img)
            → ((meter_by n c out img (λ d. meter s h k (suc n) d out img) g).answer.code ≡ BUDGET → ⊥)
            → meter_by n c out img (λ d. meter s h (k + j) (suc n) d out img) g ≡ meter_by n c out img (λ d. meter s h k (suc n) d out img) g
        by (going d) more ne = more d ne
        by (ended vs mem) more ne = refl
        by (trapped a i) more ne = refl
        by halted more ne = refl

    -- a budget that is spent leaves the machine going
    pub meter-spent : (k n : ℕ) (c : Config) → (meter s h k n c out img).answer.code ≡ BUDGET → (d : Config) × (runs s h k c ≡ going d)
    unfolding meter runs
    meter-spent zero n c e = (c, refl)
    meter-spent (suc k) n c e = by (step s h c) refl (meter-spent k (suc n)) e
      where
        first_step : (k : ℕ) (x : Config) → step s h c ≡ going x → runs s h (suc k) c ≡ runs s h k x
        first_step k x f =
            let one : suc k ≡ 1 + k = omega arith in
            ap (λ (j : ℕ). runs s h j c) one ∙ runs-along s h 1 k c x (one_more s h 0 c c (no_steps s h c) ∙ f)

        by : (g : Stage) → step s h c ≡ g
            → ((x : Config) → (meter s h k (suc n) x out img).answer.code ≡ BUDGET → (d : Config) × (runs s h k x ≡ going d))
            → (meter_by n c out img (λ d. meter s h k (suc n) d out img) g).answer.code ≡ BUDGET
            → (d : Config) × (runs s h (suc k) c ≡ going d)
        by (going x) f more e = ((more x e).0, first_step k x f ∙ (more x e).1)
        by (ended vs mem) f more e = absurd (let z : DONE ≡ BUDGET = e in omega (arith, z))
        by (trapped a i) f more e = absurd (let z : TRAP ≡ BUDGET = e in omega (arith, z))
        by halted f more e = absurd (let z : STUCK ≡ BUDGET = e in omega (arith, z))
