-- What the three parts of a number say together.
use Prim.Native.Nat.{ℕ, ◌+◌, ◌*◌, ◌^◌}
use mathlib.Core.Path.{◌≡◌, ap, ap₂, sym, ◌∙◌, subst}
use mathlib.Core.List.{List}
use mathlib.Core.Option.{Option}
use native.Mathlib.Omega.{arith}
use Rattle.card.specs.declared.Answer.{Answer}
use Rattle.checker.specs.Check.{Checked}
use Rattle.run.specs.Meter.{Left, leaves}
use Rattle.doors.specs.Packed.{code_of, place_of, steps_of, answer_of}

abbrev answer : ℕ → ℕ → ℕ → Answer
answer c p n = record { code = c; place = p; steps = n }

-- ---- a number whose parts are those of an answer holds that answer, and promises what it promises

abbrev Parts : ℕ → Answer → Type 0
Parts r a = (code_of r ≡ a.code) × (place_of r ≡ a.place) × (steps_of r ≡ a.steps)

module _ (r : ℕ) (a : Answer) (e : Parts r a) where
  holds : answer_of r ≡ a
  holds = ap₂ (λ (c p : ℕ). answer c p (steps_of r)) e.0 e.1 ∙ ap (answer a.code a.place) e.2

  pub checked : {s : List ℕ} → Checked s a → Checked s (answer_of r)
  checked {s} w = subst (Checked s) (sym holds) w

  -- whatever is promised of what is left
  pub called : (P : Left → Type 0) (mem out : List ℕ) (img : Option (List ℕ)) → P (leaves a.code a.place a.steps mem out img)
      → P (leaves (code_of r) (place_of r) (steps_of r) mem out img)
  called P mem out img w = subst (λ (x : Answer). P (leaves x.code x.place x.steps mem out img)) (sym holds) w

-- ---- every bit of a number is in one of its three parts

abbrev number : Answer → ℕ
number a = a.code + 2 ^ 8 * a.place + 2 ^ 32 * a.steps

whole : (r : ℕ) → r ≡ number (answer_of r)
whole r = omega arith

pub number-once : (r r' : ℕ) → answer_of r ≡ answer_of r' → r ≡ r'
number-once r r' e = whole r ∙ ap number e ∙ sym (whole r')
