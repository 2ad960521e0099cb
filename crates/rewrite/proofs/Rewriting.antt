-- What the rewriter promises: one answer, the same strip with every number shortest, nothing beyond it touched, and nothing to do a second time.
use Prim.Native.Nat.{ℕ, ◌≤◌}
use mathlib.Core.Path.{◌≡◌, refl, sym, ap, ap₂, subst, ◌∙◌}
use mathlib.Core.List.{List, ◌++◌}
use native.Mathlib.Omega.{arith}
use lib.ListN.{length, take, drop, length-append, length-drop}
use lib.Seq.{take-append_seam, drop-append_seam}
use Rattle.card.specs.Card.{DONE}
use Rattle.instr.specs.declared.Instr.{Instr}
use Rattle.instr.specs.Layout.{Shortest, InOrder}
use Rattle.rules.specs.Header.{Header, header_bytes}
use Rattle.rules.specs.Strip.{Valid}
use Rattle.rules.proofs.Verdicts.{one-breach, valid-no-breach, breach-coded}
use Rattle.rules.specs.Consists.{Consists}
use Rattle.rewrite.specs.Rewrite.{encodings, shortest, answer, Rewrites, refused, small, done}
use Rattle.rewrite.specs.Shortened.{written, layouts, Shortened}
use Rattle.rewrite.specs.declared.Rewritten.{Rewritten}
use Rattle.rules.proofs.Strips.{holds-once, instrs, valid-holds}
use Rattle.rewrite.proofs.Again.{holds-again, valid-again}
use Rattle.rewrite.proofs.Least.{all-shortest, holds-least, holds-only}

-- the answer and the output when there is room
abbrev done_answer : Header → List Instr → Rewritten
done_answer h is = answer DONE 0 (length (shortest h is))

abbrev done_out : List ℕ → Header → List Instr → List ℕ
done_out out h is = shortest h is ++ drop (length (shortest h is)) out

-- ONE ANSWER, and one content of the output
pub rewrites-once : {s out : List ℕ} {r q : Rewritten} {out₁ out₂ : List ℕ} → Rewrites s out r out₁ → Rewrites s out q out₂ → (r ≡ q) × (out₁ ≡ out₂)
rewrites-once (refused a) (refused b) = let same = one-breach a b in (ap₂ (λ (c l : ℕ). answer c l 0) same.0 same.1, refl)
rewrites-once (refused a) (small v b l) = absurd (valid-no-breach v a)
rewrites-once (refused a) (done v b l) = absurd (valid-no-breach v a)
rewrites-once (small v a l) (refused b) = absurd (valid-no-breach v b)
rewrites-once (small v a l) (small v' b l') = (refl, refl)
rewrites-once (small v a l) (done v' b l') =
    let same = holds-once a b in
    let e = ap₂ (λ (h : Header) (is : List Instr). length (shortest h is)) same.0 same.1 in
    absurd (let z : ⊥ = omega (arith, e) in z)
rewrites-once (done v a l) (refused b) = absurd (valid-no-breach v b)
rewrites-once (done v a l) (small v' b l') =
    let same = holds-once a b in
    let e = ap₂ (λ (h : Header) (is : List Instr). length (shortest h is)) same.0 same.1 in
    absurd (let z : ⊥ = omega (arith, e) in z)
rewrites-once {out = out} (done v a l) (done v' b l') =
    let same = holds-once a b in (ap₂ done_answer same.0 same.1, ap₂ (done_out out) same.0 same.1)

-- whatever the answer, no byte beyond its length is touched
pub untouched : {s out : List ℕ} {r : Rewritten} {out' : List ℕ} → Rewrites s out r out' → (drop r.len out' ≡ drop r.len out) × (length out' ≡ length out)
untouched (refused b) = (refl, refl)
untouched (small v a l) = (refl, refl)
untouched {out = out} (done {h = h} {is = is} v a l) =
    let t = shortest h is in
    (drop-append_seam t (drop (length t) out), omega (arith, l, length-append t (drop (length t) out), length-drop (length t) out))

-- a refusal has the length 0 and leaves the output as it was
pub refusal : {s out : List ℕ} {r : Rewritten} {out' : List ℕ} → Rewrites s out r out' → (r.code ≡ DONE → ⊥) → (r.len ≡ 0) × (out' ≡ out)
refusal (refused b) f = (refl, refl)
refusal (small v a l) f = (refl, refl)
refusal (done v a l) f = absurd (f refl)

-- an answer DONE
record Went (s out : List ℕ) (r : Rewritten) (out' : List ℕ) : Type 0 where
  header : Header
  list : List Instr
  valid : Valid s
  holds : Consists s header list
  fits : length (shortest header list) ≤ length out
  result : r ≡ done_answer header list
  bytes : out' ≡ done_out out header list

went : {s out : List ℕ} {r : Rewritten} {out' : List ℕ} → Rewrites s out r out' → r.code ≡ DONE → Went s out r out'
went (refused b) e = absurd (breach-coded b e)
went (small v a l) e = absurd (let z : ⊥ = omega arith in z)
went (done {h = h} {is = is} v a l) e = record { header = h; list = is; valid = v; holds = a; fits = l; result = refl; bytes = refl }

module _ {s out : List ℕ} {r : Rewritten} {out' : List ℕ} (w : Rewrites s out r out') (z : r.code ≡ DONE) where
  len : r.len ≡ length (shortest (went w z).header (went w z).list)
  len = ap (λ (x : Rewritten). x.len) (went w z).result

  is-shortest : written r out' ≡ shortest (went w z).header (went w z).list
  is-shortest = let t = shortest (went w z).header (went w z).list in ap₂ take len (went w z).bytes ∙ take-append_seam t (drop (length t) out)

  pub written-length : length (written r out') ≡ r.len
  written-length = ap length is-shortest ∙ sym len

  not-longer : length (written r out') ≤ length s
  not-longer = omega (arith, ap length is-shortest, holds-least (went w z).holds (went w z).holds)

  still-valid : Valid (written r out')
  still-valid =
      let v = (went w z).valid in
      let same = holds-once (went w z).holds (valid-holds v) in
      valid-again v (written r out') (is-shortest ∙ ap₂ shortest same.0 same.1) not-longer

  -- THE SAME STRIP, every number shortest, and none shorter
  pub shortened : Shortened s (written r out')
  shortened =
      let h = (went w z).header in
      let is = (went w z).list in
      let a = (went w z).holds in
      let e = is-shortest in
      record {
        header = h;
        instrs = is;
        before = a;
        after = holds-again a (written r out') e not-longer;
        valid = still-valid;
        numbers =
            subst (InOrder Shortest (layouts h.version is)) (sym (ap (drop (length (header_bytes h))) e ∙ drop-append_seam (header_bytes h) (encodings is)))
            (all-shortest a.instructions);
        shorter = not-longer;
        least = λ u b. omega (arith, ap length e, holds-least a b);
        only = λ u b l. holds-only a b (l ∙ ap length e) ∙ sym e;
      }

  -- A SECOND TIME: the same bytes
  pub again : {out₂ : List ℕ} {q : Rewritten} {out₃ : List ℕ} → Rewrites (written r out') out₂ q out₃ → r.len ≤ length out₂
      → (q ≡ r) × (out₃ ≡ written r out' ++ drop r.len out₂)
  again {out₂ = out₂} v l =
      let h = (went w z).header in
      let is = (went w z).list in
      let e = is-shortest in
      let twice : Rewrites (written r out') out₂ (done_answer h is) (done_out out₂ h is) =
      done still-valid (holds-again (went w z).holds (written r out') e not-longer) (omega (arith, len)) in
      let same = rewrites-once v twice in
      (same.0 ∙ sym (went w z).result, same.1 ∙ ap₂ (λ (x : List ℕ) (k : ℕ). x ++ drop k out₂) (sym e) (sym len))

-- an output as long as the strip is long enough
pub enough : {s out : List ℕ} {r : Rewritten} {out' : List ℕ} → Rewrites s out r out' → Valid s → length s ≤ length out → r.code ≡ DONE
enough {out = out} w v l =
    let a = valid-holds v in
    let fits : length (shortest v.header (instrs v)) ≤ length out = omega (arith, l, holds-least a a) in
    ap (λ (x : Rewritten). x.code) (rewrites-once w (done v a fits)).0
