-- What a call promises leaves one answer, one memory, one content of the results and one of the image's buffer.
use Prim.Native.Nat.{ℕ}
use mathlib.Core.Path.{◌≡◌, refl, ap, ap₂, sym, ◌∙◌, subst}
use mathlib.Core.List.{List, [], ◌∷◌}
use mathlib.Core.Logic.{inl, inr}
use mathlib.Core.Option.{Option, some}
use Rattle.card.specs.declared.Answer.{Answer}
use Rattle.machine.specs.Value.{Value}
use Rattle.image.proofs.Held.{holds-once}
use Rattle.rules.specs.Header.{Header}
use Rattle.rules.specs.Strip.{Valid}
use Rattle.rules.proofs.Onward.{declared}
use Rattle.rules.proofs.Headers.{declares-once}
use Rattle.rules.proofs.Verdicts.{one-breach, valid-no-breach}
use Rattle.standard.specs.Standard.{Config, begin}
use Rattle.run.specs.Meter.{Left, leaves, meter}
use Rattle.run.specs.Call.{Question, ◌or◌, Fails, AllWell, Asks, TurnsAway, breaks, fails, Calls, refused, metered}
use Rattle.run.specs.Run.{run_asks, Begins, Runs}
use Rattle.run.specs.Resume.{resume_asks, Resumes}
use Rattle.run.proofs.Picturing.{pictures-once}
use Rattle.run.proofs.run.Reads as run
use Rattle.run.proofs.run_once.Reads as run-once
use Rattle.run.proofs.resuming.resume.Reads as resume

-- a strip that keeps the rules has one header
pub header-once : {s : List ℕ} (v w : Valid s) → v.header ≡ w.header
header-once {s} v w = declares-once s v.header w.header (declared v.reached) (declared w.reached)

-- ---- the questions

-- the first that is answered with no is one
fails-once : (qs : List {1} Question) (c d : ℕ) → Fails qs c → Fails qs d → c ≡ d
fails-once [] c d a b = absurd a
fails-once ((P or k) ∷ qs) c d (inl a) (inl b) = a.1 ∙ sym b.1
fails-once ((P or k) ∷ qs) c d (inl a) (inr b) = absurd (a.0 b.0)
fails-once ((P or k) ∷ qs) c d (inr a) (inl b) = absurd (b.0 a.0)
fails-once ((P or k) ∷ qs) c d (inr a) (inr b) = fails-once qs c d a.1 b.1

-- and then not all are well
pub fails-some : (qs : List {1} Question) (c : ℕ) → Fails qs c → AllWell qs → ⊥
fails-some [] c a w = a
fails-some ((P or k) ∷ qs) c (inl a) w = a.0 w.0
fails-some ((P or k) ∷ qs) c (inr a) w = fails-some qs c a.1 w.1

-- ---- any call, whose machine starts from one configuration

module _ {s : List ℕ} (asks : Asks) where
  -- of whichever header
  pub fails-for : (v w : Valid s) (c : ℕ) → Fails (asks v.header) c → Fails (asks w.header) c
  fails-for v w c = subst (λ (h : Header). Fails (asks h) c) (header-once v w)

  pub well-for : (v w : Valid s) → AllWell (asks v.header) → AllWell (asks w.header)
  well-for v w = subst (λ (h : Header). AllWell (asks h)) (header-once v w)

  turned-once : {c d p q : ℕ} → TurnsAway s asks c p → TurnsAway s asks d q → (c ≡ d) × (p ≡ q)
  turned-once (breaks a) (breaks b) = one-breach a b
  turned-once (breaks a) (fails w g) = absurd (valid-no-breach w a)
  turned-once (fails v f) (breaks b) = absurd (valid-no-breach v b)
  turned-once (fails {c} v f) (fails {c = d} w g) = (fails-once (asks w.header) c d (fails-for v w c f) g, refl)

  never_both : {c p : ℕ} → TurnsAway s asks c p → (v : Valid s) → AllWell (asks v.header) → ⊥
  never_both (breaks a) v well = valid-no-breach v a
  never_both (fails {c} w f) v well = fails-some (asks v.header) c (fails-for w v c f) well

  module _ {mem out : List ℕ} {img : Option (List ℕ)} {budget : ℕ} {Starts : Header → Config → Type 0}
      (starts-once : (v : Valid s) (c d : Config) → Starts v.header c → Starts v.header d → c ≡ d) where
    pub calls-once : {x y : Left} → Calls s mem out img budget asks Starts x → Calls s mem out img budget asks Starts y → x ≡ y
    calls-once (refused a) (refused b) = let same = turned-once a b in ap₂ (λ (c p : ℕ). leaves c p 0 mem out img) same.0 same.1
    calls-once (refused a) (metered w d well e) = absurd (never_both a w well)
    calls-once (metered v c well e) (refused b) = absurd (never_both b v well)
    calls-once (metered v c well e) (metered w d well' e') =
        ap₂ (λ (h : Header) (x : Config). meter s h budget 0 x out img) (header-once v w)
        (starts-once w c d (subst (λ (h : Header). Starts h c) (header-once v w) e) e')

-- ---- the run

begins-once : {args mem : List ℕ} {h : Header} (c d : Config) → Begins args mem h c → Begins args mem h d → c ≡ d
begins-once {mem = mem} {h} c d a b = a.begins ∙ ap (λ (vs : List Value). begin h vs mem) (holds-once a.given b.given) ∙ sym b.begins

module _ (s args mem out : List ℕ) (img : Option (List ℕ)) (budget : ℕ) where
  pub runs-once : {x y : Left} → Runs s args mem out img budget x → Runs s args mem out img budget y → x ≡ y
  runs-once = calls-once (run_asks args mem out img) (λ v. begins-once)

-- ---- the resume

module _ (s mem out buffer : List ℕ) (budget : ℕ) where
  pub resumes-once : {x y : Left} → Resumes s mem out buffer budget x → Resumes s mem out buffer budget y → x ≡ y
  resumes-once = calls-once (resume_asks s mem out buffer) (λ v c d p q. pictures-once p d q)

-- ---- of the functions' own contracts

-- of buffers that are lent for an image
pub buffer-once : {a b : List ℕ} → some a ≡ some b → a ≡ b
buffer-once e = cc (e)

pub one-run : (κs : _) (a : _) (e e' : _) (r r' : Answer) → run.Post κs a r e → run.Post κs a r' e'
    → (r ≡ r') × (e.1.1.0.now ≡ e'.1.1.0.now) × (e.1.1.1.0.now ≡ e'.1.1.1.0.now) × (e.1.1.1.1.0.now ≡ e'.1.1.1.1.0.now)
one-run κs a e e' r r' p q =
    let same = runs-once _ _ _ _ _ _ p q in (
      ap (λ (x : Left). x.answer) same,
      ap (λ (x : Left). x.memory) same,
      ap (λ (x : Left). x.results) same,
      buffer-once (ap (λ (x : Left). x.image) same),
    )

pub one-run-once : (κs : _) (a : _) (e e' : _) (r r' : Answer) → run-once.Post κs a r e → run-once.Post κs a r' e'
    → (r ≡ r') × (e.1.1.0.now ≡ e'.1.1.0.now) × (e.1.1.1.0.now ≡ e'.1.1.1.0.now)
one-run-once κs a e e' r r' p q =
    let same = runs-once _ _ _ _ _ _ p q in
    (ap (λ (x : Left). x.answer) same, ap (λ (x : Left). x.memory) same, ap (λ (x : Left). x.results) same)

pub one-resume : (κs : _) (a : _) (e e' : _) (r r' : Answer) → resume.Post κs a r e → resume.Post κs a r' e'
    → (r ≡ r') × (e.1.0.now ≡ e'.1.0.now) × (e.1.1.0.now ≡ e'.1.1.0.now) × (e.1.1.1.0.now ≡ e'.1.1.1.0.now)
one-resume κs a e e' r r' p q =
    let same = resumes-once _ _ _ _ _ p q in (
      ap (λ (x : Left). x.answer) same,
      ap (λ (x : Left). x.memory) same,
      ap (λ (x : Left). x.results) same,
      buffer-once (ap (λ (x : Left). x.image) same),
    )
