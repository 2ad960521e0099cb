-- What a run answers, put together: what is asked first, then what the instructions leave.
use Prim.Native.Nat.{ℕ, ◌≤◌, ◌<◌}
use mathlib.Core.Path.{◌≡◌, refl, ap, sym, ◌∙◌, subst}
use mathlib.Core.List.{List}
use mathlib.Core.Logic.{inl, inr}
use mathlib.Core.Option.{Option, none, some}
use native.Mathlib.Omega.{arith}
use lib.ListN.{length}
use Rattle.card.specs.Card.{DONE, SMALL}
use Rattle.card.specs.declared.Answer.{Answer}
use Rattle.image.specs.Image.{image_bytes}
use Rattle.image.proofs.Held.{slots-long}
use Rattle.standard.specs.Standard.{begin}
use Rattle.run.specs.Meter.{leaves, meter}
use Rattle.run.specs.Call.{Asks, TurnsAway, fails, Calls, refused, metered}
use Rattle.run.specs.Run.{Roomy, Runs}
use Rattle.run.specs.Inner.Steps.{Prepared, Asked, turned, well, lent, Drove}
use Rattle.run.proofs.Pausing.{lent_none, lent-some}

-- a refusal, whatever stands for its numbers
pub turned-call : {s mem out : List ℕ} {img : Option (List ℕ)} {budget : ℕ} {asks : Asks} {Starts : _} {code place : ℕ} (r : Answer)
    → (r.code ≡ code) × (r.place ≡ place) × (r.steps ≡ 0) → TurnsAway s asks code place
    → Calls s mem out img budget asks Starts (leaves r.code r.place r.steps mem out img)
turned-call {s} {mem} {out} {img} {budget} {asks} {Starts} {code} {place} r e t =
    subst (λ (n : ℕ). Calls s mem out img budget asks Starts (leaves r.code r.place n mem out img)) (sym e.2)
    (subst (λ (p : ℕ). Calls s mem out img budget asks Starts (leaves r.code p 0 mem out img)) (sym e.1)
    (subst (λ (c : ℕ). Calls s mem out img budget asks Starts (leaves c place 0 mem out img)) (sym e.0) (refused t)))

module _ {s args mem out : List ℕ} {r : Answer} (asked : Asked s args mem out r) where
  pub asked-first : (r.code ≡ DONE → ⊥) → (img : Option (List ℕ)) (budget : ℕ) → Runs s args mem out img budget (leaves r.code r.place r.steps mem out img)
  asked-first ne img budget = by asked
    where
      by : Asked s args mem out r → Runs s args mem out img budget (leaves r.code r.place r.steps mem out img)
      by (turned e never t) = turned-call r (refl, refl, e) (t img)
      by (well done p) = absurd (ne done)

  pub asked-well : r.code ≡ DONE → Prepared s args mem out
  asked-well done = by asked
    where
      by : Asked s args mem out r → Prepared s args mem out
      by (turned e never t) = absurd (never done)
      by (well e p) = p

  -- no room for an image
  pub no-image : r.code ≡ DONE → (buffer : List ℕ) → length buffer < image_bytes → {a : Answer} → (a.code ≡ SMALL) × (a.place ≡ 0) × (a.steps ≡ 0) → (budget : ℕ)
      → Runs s args mem out (some buffer) budget (leaves a.code a.place a.steps mem out (some buffer))
  no-image done buffer short {a} e budget =
      let p = asked-well done in
      turned-call a e
      (fails p.valid (inr (p.room, inr (slots-long p.given, inr (p.slots, inr ((p.values, p.given), inl (λ l. omega (arith, l, short), refl)))))))

-- all is in order
module _ {s args mem out buffer mem' out' buffer' : List ℕ} {budget code place steps : ℕ}
    (d : Drove s args mem out buffer budget code place steps mem' out' buffer') where
  runs-with : (img : Option (List ℕ)) → Roomy img → lent buffer ≡ img → Runs s args mem out img budget (leaves code place steps mem' out' (lent buffer'))
  runs-with img roomy e =
      let p = d.ready in
      subst (Runs s args mem out img budget)
      (sym (d.same ∙ ap (meter s p.valid.header budget 0 (begin p.valid.header p.values mem) out) e))
      (metered p.valid (begin p.valid.header p.values mem)
      (p.room, (slots-long p.given, (p.slots, ((p.values, p.given), (roomy, tt)))))
      (record { values = p.values; given = p.given; begins = refl }))

  pub ran : image_bytes ≤ length buffer → length buffer' ≡ length buffer → Runs s args mem out (some buffer) budget (leaves code place steps mem' out' (some buffer'))
  ran long same =
      subst (λ (i : Option (List ℕ)). Runs s args mem out (some buffer) budget (leaves code place steps mem' out' i))
      (lent-some buffer' (omega (arith, long, same))) (runs-with (some buffer) long (lent-some buffer long))

  pub ran-once : length buffer ≡ 0 → length buffer' ≡ 0 → Runs s args mem out none budget (leaves code place steps mem' out' none)
  ran-once e e' =
      subst (λ (i : Option (List ℕ)). Runs s args mem out none budget (leaves code place steps mem' out' i)) (lent_none buffer' (omega (arith, e')))
      (runs-with none tt (lent_none buffer (omega (arith, e))))
