-- Two numbers, a blank between them and a line's end after them; of any strip one text, or none.
use Prim.Native.Nat.{ℕ, ◌^◌, ◌≤◌, ◌<◌}
use mathlib.Core.Path.{◌≡◌, refl, sym, ap, ap₂, subst}
use mathlib.Core.List.{List, [], ◌∷◌, ◌++◌, append_assoc}
use native.Mathlib.Omega.{arith}
use lib.ListN.{length, length-append}
use lib.Seq.{sets}
use Rattle.std.specs.Prelude.{Option, Some, None}
use Rattle.std.proofs.lemmas.Option.{none-some}
use Rattle.text.specs.Decimal.{decimal}
use Rattle.text.specs.Words.{blank, newline, joined}
use Rattle.text.specs.Append.{Appends}
use Rattle.text.proofs.Appending.{appended, both-appended}
use Rattle.text.proofs.Decimals.{decimal-short}
use Rattle.rules.specs.Strip.{Valid}
use Rattle.rules.specs.Breach.{Breach}
use Rattle.rules.proofs.Verdicts.{one-breach, valid-no-breach}
use Rattle.lister.specs.Refusal.{told, PrintsRefusal, kept, broken}
use Rattle.lister.proofs.refusal.refusal.Reads as refusal

parted : (c p : ℕ) → ((decimal c ++ blank ∷ []) ++ decimal p) ++ newline ∷ [] ≡ told c p
unfolding told joined
parted c p = simp append_assoc

pub line-told : {c p : ℕ} {out o₁ o₂ o₃ o₄ : List ℕ} {n₁ n₂ n₃ n₄ : ℕ} → c < 2 ^ 64 → p < 2 ^ 64 → 42 ≤ length out → Appends (decimal c) out 0 n₁ o₁
    → Appends (blank ∷ []) o₁ n₁ n₂ o₂ → Appends (decimal p) o₂ n₂ n₃ o₃ → Appends (newline ∷ []) o₃ n₃ n₄ o₄
    → (n₄ ≤ 42) × (length (told c p) ≤ 42) × Appends (told c p) out 0 n₄ o₄
line-told {c} {p} {out} {o₄ = o₄} {n₄ = n₄} h k room a b d e =
    let lc = decimal-short c h in
    let lp = decimal-short p k in
    let l₁ = length-append (decimal c) (blank ∷ []) in
    let l₂ = length-append (decimal c ++ blank ∷ []) (decimal p) in
    let l₃ = length-append ((decimal c ++ blank ∷ []) ++ decimal p) (newline ∷ []) in
    let all = both-appended (both-appended (both-appended a b (omega arith)) d (omega arith)) e (omega arith) in
    let ends = appended all (omega arith) in
    (omega (arith, ends.0), omega (arith, ap length (parted c p)), subst (λ (x : List ℕ). Appends x out 0 n₄ o₄) (parted c p) all)

pub is-broken : {s out out' : List ℕ} {c p n : ℕ} → Breach s c p → length (told c p) ≤ 42 → 42 ≤ length out → Appends (told c p) out 0 n out'
    → PrintsRefusal s out (Some n) out'
is-broken {s} {out} {out'} {c} {p} {n} b short room a =
    let e = appended a (omega arith) in
    let long : length (told c p) ≡ n = omega (arith, e.0) in
    subst (λ (x : List ℕ). PrintsRefusal s out (Some n) x) (sym e.1) (subst (λ (k : ℕ). PrintsRefusal s out (Some k) (sets out 0 (told c p))) long (broken b))

-- nothing is printed only of a strip that keeps every rule
pub none-valid : {s out out' : List ℕ} {r : Option ℕ} → PrintsRefusal s out r out' → r ≡ None → Valid s
none-valid (kept v) e = v
none-valid (broken b) e = absurd (none-some _ (sym e))

refuses-once : {s out o o' : List ℕ} {r q : Option ℕ} → PrintsRefusal s out r o → PrintsRefusal s out q o' → (r ≡ q) × (o ≡ o')
refuses-once (kept v) (kept w) = (refl, refl)
refuses-once (kept v) (broken b) = absurd (valid-no-breach v b)
refuses-once (broken b) (kept v) = absurd (valid-no-breach v b)
refuses-once {out = out} (broken a) (broken b) =
    let same = one-breach a b in
    (ap₂ (λ (c p : ℕ). Some (length (told c p))) same.0 same.1, ap₂ (λ (c p : ℕ). sets out 0 (told c p)) same.0 same.1)

-- of the function's own contract
pub one-refusal : (κs : _) (a : _) (e e' : _) (r r' : Option ℕ) → refusal.Post κs a r e → refusal.Post κs a r' e' → (r ≡ r') × (e.1.0.now ≡ e'.1.0.now)
one-refusal κs a e e' r r' p q = refuses-once p.1 q.1
