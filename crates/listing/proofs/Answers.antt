-- A breach is passed on. The listing of a valid strip is counted; then there is room for it or not; then it is written.
use Prim.Native.Nat.{ℕ, ◌+◌, ◌≤◌, ◌<◌}
use mathlib.Core.Path.{◌≡◌, refl, sym, ap, ap₂, subst, ◌∙◌}
use mathlib.Core.List.{List, ◌++◌}
use native.Mathlib.Omega.{arith}
use lib.ListN.{length, drop}
use lib.Seq.{sets, sets-eq}
use Rattle.card.specs.Card.{DONE, SMALL}
use Rattle.rules.specs.Breach.{Breach}
use Rattle.rules.proofs.Verdicts.{one-breach, valid-no-breach}
use Rattle.listing.specs.Listing.{answer, Lists, refused, small, done}
use Rattle.listing.specs.declared.Listed.{Listed}
use Rattle.listing.specs.Inner.Pass.{Passed}
use Rattle.listing.proofs.Lines.{listing-once}

pub is-refused : {s out : List ℕ} {c l : ℕ} {r : Listed} → Breach s c l → r ≡ answer c l 0 → Lists s out r out
is-refused b e = rw e (refused b)

module _ {s none none' : List ℕ} {len : ℕ} (p : Passed s none len none') where
  pub too_small : {out : List ℕ} {r : Listed} → length out < len → r ≡ answer SMALL 0 0 → Lists s out r out
  too_small l e = rw e (small p.listing (omega (arith, p.counted)))

  pub all-written : {out out' : List ℕ} {n : ℕ} → len ≤ length out → Passed s out n out' → Lists s out (answer DONE 0 len) out'
  all-written {out} {out'} l q =
      let text = p.text in
      let same : q.text ≡ text = listing-once q.listing p.listing in
      let fits : length text ≤ length out = omega (arith, p.counted) in
      let after : 0 + length text ≡ length text = omega arith in
      let e : out' ≡ text ++ drop (length text) out =
      q.written (omega (arith, ap length same)) ∙ ap (sets out 0) same ∙ sets-eq text out 0 (omega arith) ∙ ap (λ (k : ℕ). text ++ drop k out) after in
      subst (λ (n : ℕ). Lists s out (answer DONE 0 n) out') (sym p.counted)
      (subst (Lists s out (answer DONE 0 (length text))) (sym e) (done p.listing fits))

-- ONE ANSWER, and one content of the output
pub lists-once : {s out : List ℕ} {r q : Listed} {out₁ out₂ : List ℕ} → Lists s out r out₁ → Lists s out q out₂ → (r ≡ q) × (out₁ ≡ out₂)
lists-once (refused a) (refused b) = let same = one-breach a b in (ap₂ (λ (c l : ℕ). answer c l 0) same.0 same.1, refl)
lists-once (refused a) (small b l) = absurd (valid-no-breach b.valid a)
lists-once (refused a) (done b l) = absurd (valid-no-breach b.valid a)
lists-once (small a l) (refused b) = absurd (valid-no-breach a.valid b)
lists-once (small a l) (small b m) = (refl, refl)
lists-once (small a l) (done b m) = absurd (let z : ⊥ = omega (arith, ap length (listing-once a b)) in z)
lists-once (done a l) (refused b) = absurd (valid-no-breach a.valid b)
lists-once (done a l) (small b m) = absurd (let z : ⊥ = omega (arith, ap length (listing-once a b)) in z)
lists-once {out = out} (done a l) (done b m) =
    let same = listing-once a b in
    (ap (λ (x : List ℕ). answer DONE 0 (length x)) same, ap (λ (x : List ℕ). x ++ drop (length x) out) same)
