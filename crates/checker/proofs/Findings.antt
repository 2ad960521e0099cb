-- A survey's answers.
use Prim.Native.Nat.{ℕ}
use mathlib.Core.Path.{◌≡◌, sym, ap, subst, ◌∙◌}
use mathlib.Core.Bool.{Bool, true}
use mathlib.Core.List.{List, map}
use lib.ListN.{length, take}
use Rattle.std.specs.Prelude.{Some, Ok, Err}
use Rattle.std.specs.declared.option.Option.{Option}
use Rattle.std.specs.declared.result.Result.{Result}
use Rattle.opcode.specs.Kind.{kind_byte}
use Rattle.rules.specs.Header.{Header}
use Rattle.rules.specs.Typing.{Frame, all_values, Live}
use Rattle.rules.specs.Strip.{Reaches, Valid}
use Rattle.rules.specs.Around.{Around}
use Rattle.rules.proofs.Headers.{declares-once}
use Rattle.rules.proofs.Onward.{declared, reached-once}
use Rattle.rules.specs.Breach.{Breach}
use Rattle.checker.specs.declared.Refusal.{Refusal}
use Rattle.checker.specs.declared.place.Surveyed.{Surveyed}
use Rattle.checker.specs.Survey.{marks_of, fronted, found, Surveys, breaks, finds}
use Rattle.checker.specs.Inner.Coming.{Coming, TellsDead}
use Rattle.checker.proofs.Held.{held-front}

pub refused : {s : List ℕ} {at : ℕ} {kinds marks : List ℕ} {r : Result (Option Surveyed) Refusal} {e : Refusal} → r ≡ Err e → Breach s e.code e.place
    → Surveys s at kinds marks r kinds marks
refused {s} {at} {kinds} {marks} q b = subst (λ (x : Result (Option Surveyed) Refusal). Surveys s at kinds marks x kinds marks) (sym q) (breaks b)

module _ {s : List ℕ} {v n takes : ℕ} {kinds blocks bodies : List ℕ} {depth nest floor : ℕ} {dead : Bool} {at : ℕ}
    (w : Coming s v n takes kinds blocks bodies depth nest floor dead at) where
  same-header : (k : Valid s) → w.going.header ≡ k.header
  same-header k = declares-once s w.going.header k.header w.going.setting.declares (declared k.reached)

  its-reached : (k : Valid s) → Reaches s k.header at w.going.frames
  its-reached k = subst (λ (h : Header). Reaches s h at w.going.frames) (same-header k) w.going.reached

  pub nowhere-live : {r : Bool} → TellsDead w.going.frames r → r ≡ true → (k : Valid s) (fs : List Frame) → Reaches s k.header at fs → Live fs → ⊥
  nowhere-live l e k fs x live = l.dead e (subst Live (reached-once x (its-reached k)) live)

  pub found_here : (k : Valid s) → Live w.going.frames → {kinds' marks' old marks : List ℕ} → kinds' ≡ fronted (take depth kinds) old
      → marks' ≡ fronted (marks_of w.going.frames w.begun) marks → Surveys s at old marks (Ok (Some (found depth nest))) kinds' marks'
  found_here k live {kinds'} {marks'} {old} {marks} ek em =
      let fs : List Frame = w.going.frames in
      let bs : List ℕ = w.begun in
      let it = finds k (its-reached k) live (subst (λ (h : Header). Around s h at bs) (same-header k) w.around) in
      let front : fronted (map kind_byte (all_values fs)) old ≡ kinds' = sym (ek ∙ ap (λ (x : List ℕ). fronted x old) (held-front w.going.framed.holds)) in
      subst (λ (d : ℕ). Surveys s at old marks (Ok (Some (found d nest))) kinds' marks') w.going.framed.holds.many
      (subst (λ (m : ℕ). Surveys s at old marks (Ok (Some (found (length (all_values fs)) m))) kinds' marks') w.many
      (subst (λ (x : List ℕ). Surveys s at old marks (Ok (Some (found (length (all_values fs)) (length bs)))) x marks') front
      (subst (Surveys s at old marks (Ok (Some (found (length (all_values fs)) (length bs)))) (fronted (map kind_byte (all_values fs)) old)) (sym em) it)))
