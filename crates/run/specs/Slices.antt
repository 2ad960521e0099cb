-- A budget that is cut into slices (02, C-14): a run, and after it resumes, each with what the call before it left, until one does not answer BUDGET
-- or no slice is left.
use Rattle.std.specs.Prelude.{ℕ, ◌+◌, ◌≡◌, List, [], ◌∷◌}
use Rattle.std.proofs.Math.Option.{some}
use Rattle.card.specs.Card.{BUDGET}
use Rattle.run.specs.Meter.{Left}
use Rattle.run.specs.Resume.{Resumes}

abbrev pub sum : List ℕ → ℕ
sum [] = 0
sum (k ∷ ks) = k + sum ks

-- after a call that left x, these slices; the last call leaves y, and the calls after x have made so many steps together
pub data Slices (s : List ℕ) : Left → List ℕ → Left → ℕ → Type 0 where
  no_slice : {x : Left} → Slices s x [] x 0
  over : {x : Left} {ks : List ℕ} → (x.answer.code ≡ BUDGET → ⊥) → Slices s x ks x 0
  slice : {x y z : Left} {k n : ℕ} {ks buffer : List ℕ} → x.answer.code ≡ BUDGET → x.image ≡ some buffer
      → Resumes s x.memory x.results buffer k y → Slices s y ks z n → Slices s x (k ∷ ks) z (y.answer.steps + n)

-- w is left by one run: with the last code and place, the memory and the results of z, and with the steps of x and n more
pub record Together (x z : Left) (n : ℕ) (w : Left) : Type 0 where
  pub code : w.answer.code ≡ z.answer.code
  pub place : w.answer.place ≡ z.answer.place
  pub steps : w.answer.steps ≡ x.answer.steps + n
  pub memory : w.memory ≡ z.memory
  pub results : w.results ≡ z.results
