-- What a survey says: of the strip what the check says; and where it finds the place, what is known there, in one form.
use Prim.Native.Nat.{ℕ, suc, ◌+◌, ◌*◌}
use mathlib.Core.Path.{◌≡◌, refl, sym, ap, ap₂, subst, ◌∙◌}
use mathlib.Core.List.{List, [], ◌∷◌, ◌++◌, map, append_assoc}
use native.Mathlib.Omega.{arith}
use lib.ListN.{length, get_or}
use lib.Seq.{get_or-append-add}
use Rattle.std.specs.Prelude.{Some, Ok, Err, MatchResult}
use Rattle.std.specs.declared.option.Option.{Option}
use Rattle.std.specs.declared.result.Result.{Result}
use Rattle.opcode.specs.Kind.{kind_byte}
use Rattle.rules.specs.Header.{Header}
use Rattle.rules.specs.Typing.{Frame, all_values, Live}
use Rattle.rules.specs.Strip.{Reaches, Valid}
use Rattle.rules.specs.Around.{Around}
use Rattle.rules.specs.Breach.{Breach}
use Rattle.rules.proofs.Headers.{declares-once}
use Rattle.rules.proofs.Onward.{declared, reached-once}
use Rattle.rules.proofs.Arounds.{Begun, strip, block, around-once, around-reached}
use Rattle.rules.proofs.Verdicts.{one-breach, valid-no-breach}
use Rattle.checker.specs.declared.Refusal.{Refusal}
use Rattle.checker.specs.declared.place.Surveyed.{Surveyed}
use Rattle.checker.specs.Survey.{way, marks_of, fronted, found, Surveys, breaks, misses, finds}
use Rattle.checker.proofs.Marks.{marks-many}

-- where the place is found: the frames and the blocks there, in the answer and in both arrays
pub record Found (s : List ℕ) (at : ℕ) (kinds marks : List ℕ) (r : Surveyed) (kinds' marks' : List ℕ) : Type 0 where
  pub valid : Valid s
  pub frames : List Frame
  pub begun : List ℕ
  pub reached : Reaches s valid.header at frames
  pub live : Live frames
  pub around : Around s valid.header at begun
  pub many : length frames ≡ suc (length begun)
  pub depth_is : r.depth ≡ length (all_values frames)
  pub nest-is : r.nest ≡ length begun
  pub kinds-are : kinds' ≡ fronted (map kind_byte (all_values frames)) kinds
  pub marks-are : marks' ≡ fronted (marks_of frames begun) marks

begun-many : {s : List ℕ} {h : Header} {fs : List Frame} {bs : List ℕ} → Begun s h fs bs → length fs ≡ suc (length bs)
begun-many (strip l r) = refl
begun-many (block r n) = ap suc (begun-many n)

frames-many : {s : List ℕ} {h : Header} {p : ℕ} {fs : List Frame} {bs : List ℕ} → Reaches s h p fs → Around s h p bs → length fs ≡ suc (length bs)
frames-many r a = let k = around-reached r in begun-many k.2 ∙ ap (λ (bs : List ℕ). suc (length bs)) (around-once k.1 a)

module _ {s : List ℕ} {at : ℕ} {kinds marks : List ℕ} where
  -- what it says of the strip is the check's
  pub survey-checks : {r : Result (Option Surveyed) Refusal} {kinds' marks' : List ℕ} → Surveys s at kinds marks r kinds' marks'
      → MatchResult r (λ _. Valid s) (λ e. Breach s e.code e.place)
  survey-checks (breaks b) = b
  survey-checks (misses v f) = v
  survey-checks (finds v x l a) = v

  pub survey-found : {r : Result (Option Surveyed) Refusal} {known : Surveyed} {kinds' marks' : List ℕ} → Surveys s at kinds marks r kinds' marks' → r ≡ Ok (Some known)
      → Found s at kinds marks known kinds' marks'
  survey-found (breaks b) e = absurd (let z : ◌≡◌ {A = ℕ} 0 1 = cc in omega arith)
  survey-found (misses v f) e = absurd (let z : ◌≡◌ {A = ℕ} 0 1 = cc in omega arith)
  survey-found {kinds' = kinds'} {marks'} (finds v {fs} {bs} x l a) e =
      let same : found (length (all_values fs)) (length bs) ≡ _ = cc in
      subst (λ (r : Surveyed). Found s at kinds marks r kinds' marks') same
      (record {
        valid = v;
        frames = fs;
        begun = bs;
        reached = x;
        live = l;
        around = a;
        many = frames-many x a;
        depth_is = refl;
        nest-is = refl;
        kinds-are = refl;
        marks-are = refl;
      })

  -- else both arrays are as they were
  pub survey-keeps : {r : Result (Option Surveyed) Refusal} {kinds' marks' : List ℕ} → Surveys s at kinds marks r kinds' marks' → ((known : Surveyed) → r ≡ Ok (Some known) → ⊥)
      → (kinds' ≡ kinds) × (marks' ≡ marks)
  survey-keeps (breaks b) f = (refl, refl)
  survey-keeps (misses v g) f = (refl, refl)
  survey-keeps (finds v {fs} {bs} x l a) f = absurd (f (found (length (all_values fs)) (length bs)) refl)

  -- and in a strip that keeps every rule no instruction stands there in live code
  pub survey-nowhere : {r : Result (Option Surveyed) Refusal} {kinds' marks' : List ℕ} → Surveys s at kinds marks r kinds' marks'
      → ((known : Surveyed) → r ≡ Ok (Some known) → ⊥) → (v : Valid s) (fs : List Frame) → Reaches s v.header at fs → Live fs → ⊥
  survey-nowhere (breaks b) e v fs x l = valid-no-breach v b
  survey-nowhere (misses w f) e v fs x l =
      f fs (subst (λ (h : Header). Reaches s h at fs) (declares-once s v.header w.header (declared v.reached) (declared w.reached)) x) l
  survey-nowhere (finds w {fs} {bs} x l a) e v gs y k = e (found (length (all_values fs)) (length bs)) refl

  -- one answer, and one content of both arrays
  pub survey-once : {r r' : Result (Option Surveyed) Refusal} {k k' m m' : List ℕ} → Surveys s at kinds marks r k m → Surveys s at kinds marks r' k' m' → (k ≡ k') × (m ≡ m') × (r ≡ r')
  survey-once (breaks b) (breaks b') = let one = one-breach b b' in (refl, refl, ap₂ (λ (c p : ℕ). Err (record { code = c; place = p })) one.0 one.1)
  survey-once (breaks b) (misses v f) = absurd (valid-no-breach v b)
  survey-once (breaks b) (finds v x l a) = absurd (valid-no-breach v b)
  survey-once (misses v f) (breaks b) = absurd (valid-no-breach v b)
  survey-once (misses v f) (misses w g) = (refl, refl, refl)
  survey-once (misses v f) (finds w {fs} x l a) = absurd (survey-nowhere (misses v f) (λ known e. let z : ◌≡◌ {A = ℕ} 0 1 = cc in omega arith) w fs x l)
  survey-once (finds v x l a) (breaks b) = absurd (valid-no-breach v b)
  survey-once (finds v {fs} x l a) (misses w g) = absurd (survey-nowhere (misses w g) (λ known e. let z : ◌≡◌ {A = ℕ} 0 1 = cc in omega arith) v fs x l)
  survey-once (finds v {fs} {bs} x l a) (finds w {fs = gs} {bs = cs} y k b) =
      let header : w.header ≡ v.header = declares-once s w.header v.header (declared w.reached) (declared v.reached) in
      let frames : fs ≡ gs = reached-once x (subst (λ (h : Header). Reaches s h at gs) header y) in
      let blocks : bs ≡ cs = around-once a (subst (λ (h : Header). Around s h at cs) header b) in (
        ap (λ (z : List Frame). fronted (map kind_byte (all_values z)) kinds) frames,
        ap₂ (λ (z : List Frame) (c : List ℕ). fronted (marks_of z c) marks) frames blocks,
        ap₂ (λ (z : List Frame) (c : List ℕ). Ok (Some (found (length (all_values z)) (length c)))) frames blocks,
      )

-- the marks of the innermost block stand after those of the others
module _ (f : Frame) (fs : List Frame) (b : ℕ) (bs rest : List ℕ) where
  pub marks-outer : marks_of (f ∷ fs) (b ∷ bs) ++ rest ≡ marks_of fs bs ++ length (all_values fs) ∷ way f.loop f.results ∷ b ∷ rest
  marks-outer = append_assoc (marks_of fs bs) (length (all_values fs) ∷ way f.loop f.results ∷ b ∷ []) rest

  pub marks-inner : length fs ≡ suc (length bs) → (j : ℕ)
      → get_or (marks_of (f ∷ fs) (b ∷ bs) ++ rest) (3 * length bs + j) 0 ≡ get_or (length (all_values fs) ∷ way f.loop f.results ∷ b ∷ rest) j 0
  marks-inner e j =
      ap₂ (λ (l : List ℕ) (n : ℕ). get_or l (n + j) 0) marks-outer (sym (marks-many fs bs e))
      ∙ get_or-append-add (marks_of fs bs) (length (all_values fs) ∷ way f.loop f.results ∷ b ∷ rest) j 0
