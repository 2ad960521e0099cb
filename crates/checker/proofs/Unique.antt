-- What the check promises leaves one answer: code, place and steps; and a step of its walk one state and one content of both arrays, as a survey one
-- answer and one content of both arrays.
use Prim.Native.Nat.{ℕ}
use mathlib.Core.Path.{◌≡◌, sym, ap, ap₂, ◌∙◌}
use mathlib.Core.List.{List}
use Rattle.card.specs.declared.Answer.{Answer}
use Rattle.rules.proofs.Verdicts.{says-once}
use Rattle.checker.specs.Check.{Checked}
use Rattle.checker.specs.declared.turns.State.{State}
use Rattle.std.specs.declared.option.Option.{Option}
use Rattle.std.specs.declared.result.Result.{Result}
use Rattle.checker.specs.declared.Refusal.{Refusal}
use Rattle.checker.specs.declared.place.Surveyed.{Surveyed}
use Rattle.checker.proofs.Known.{steps-once}
use Rattle.checker.proofs.Surveys.{survey-once}
use Rattle.checker.proofs.check.Reads as check
use Rattle.checker.proofs.start.Reads as start
use Rattle.checker.proofs.walk.outset.Reads as outset
use Rattle.checker.proofs.walk.follow.Reads as follow
use Rattle.checker.proofs.place.survey.Reads as survey

abbrev answer : ℕ → ℕ → ℕ → Answer
answer c p n = record { code = c; place = p; steps = n }

pub one_answer : {s : List ℕ} {r r' : Answer} → Checked s r → Checked s r' → r ≡ r'
one_answer {r = r} {r' = r'} a b =
    let same = says-once a.says b.says in
    ap₂ (λ (c p : ℕ). answer c p r.steps) same.0 same.1 ∙ ap (answer r'.code r'.place) (a.steps ∙ sym b.steps)

-- of the function's own contract
pub one-check : (κs : _) (a : _) (e e' : _) (r r' : Answer) → check.Post κs a r e → check.Post κs a r' e' → r ≡ r'
one-check κs a e e' r r' p q = one_answer p q

pub one-start : (κs : _) (a : _) (e e' : _) (r r' : ℕ) → start.Post κs a r e → start.Post κs a r' e' → r ≡ r'
one-start κs a e e' r r' p q = p ∙ sym q

pub one-outset : (κs : _) (a : _) (e e' : _) (r r' : State) → outset.Post κs a r e → outset.Post κs a r' e' → r ≡ r'
one-outset κs a e e' r r' p q = p ∙ sym q

pub one-follow : (κs : _) (a : _) (e e' : _) (r r' : State) → follow.Post κs a r e → follow.Post κs a r' e'
    → (e.1.1.1.0.now ≡ e'.1.1.1.0.now) × (e.1.1.1.1.0.now ≡ e'.1.1.1.1.0.now) × (r ≡ r')
one-follow κs a e e' r r' p q = steps-once p q

pub one-survey : (κs : _) (a : _) (e e' : _) (r r' : Result (Option Surveyed) Refusal) → survey.Post κs a r e → survey.Post κs a r' e'
    → (e.1.1.0.now ≡ e'.1.1.0.now) × (e.1.1.1.0.now ≡ e'.1.1.1.0.now) × (r ≡ r')
one-survey κs a e e' r r' p q = survey-once p q
