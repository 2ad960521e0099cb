-- What a door promises leaves one number, and those of the run one memory and one content of the results and of the image's buffer.
use Prim.Native.Nat.{ℕ}
use mathlib.Core.Path.{◌≡◌, ap}
use Rattle.checker.proofs.Unique.{one_answer}
use Rattle.run.specs.Meter.{Left}
use Rattle.run.proofs.Unique.{runs-once, resumes-once, buffer-once}
use Rattle.doors.proofs.Reading.{number-once}
use Rattle.doors.proofs.gevurlat_check.Reads as check
use Rattle.doors.proofs.gevurlat_run.Reads as run
use Rattle.doors.proofs.gevurlat_start.Reads as start
use Rattle.doors.proofs.gevurlat_resume.Reads as resume

pub one-check : (κs : _) (a : _) (e e' : _) (r r' : ℕ) → check.Post κs a r e → check.Post κs a r' e' → r ≡ r'
one-check κs a e e' r r' p q = number-once r r' (one_answer p q)

pub one-run : (κs : _) (a : _) (e e' : _) (r r' : ℕ) → run.Post κs a r e → run.Post κs a r' e'
    → (r ≡ r') × (e.1.1.0.now ≡ e'.1.1.0.now) × (e.1.1.1.0.now ≡ e'.1.1.1.0.now)
one-run κs a e e' r r' p q =
    let same = runs-once _ _ _ _ _ _ p q in
    (number-once r r' (ap (λ (x : Left). x.answer) same), ap (λ (x : Left). x.memory) same, ap (λ (x : Left). x.results) same)

pub one-start : (κs : _) (a : _) (e e' : _) (r r' : ℕ) → start.Post κs a r e → start.Post κs a r' e'
    → (r ≡ r') × (e.1.1.0.now ≡ e'.1.1.0.now) × (e.1.1.1.0.now ≡ e'.1.1.1.0.now) × (e.1.1.1.1.0.now ≡ e'.1.1.1.1.0.now)
one-start κs a e e' r r' p q =
    let same = runs-once _ _ _ _ _ _ p q in (
      number-once r r' (ap (λ (x : Left). x.answer) same),
      ap (λ (x : Left). x.memory) same,
      ap (λ (x : Left). x.results) same,
      buffer-once (ap (λ (x : Left). x.image) same),
    )

pub one-resume : (κs : _) (a : _) (e e' : _) (r r' : ℕ) → resume.Post κs a r e → resume.Post κs a r' e'
    → (r ≡ r') × (e.1.0.now ≡ e'.1.0.now) × (e.1.1.0.now ≡ e'.1.1.0.now) × (e.1.1.1.0.now ≡ e'.1.1.1.0.now)
one-resume κs a e e' r r' p q =
    let same = resumes-once _ _ _ _ _ p q in (
      number-once r r' (ap (λ (x : Left). x.answer) same),
      ap (λ (x : Left). x.memory) same,
      ap (λ (x : Left). x.results) same,
      buffer-once (ap (λ (x : Left). x.image) same),
    )
