-- The scan of sixteen shuffle indices.
use Prim.Native.Nat.{ℕ, suc, ◌+◌, ◌-◌, ◌<◌, ◌≤◌}
use mathlib.Core.List.{List}
use mathlib.Core.Logic.{⊎_elim}
use mathlib.Core.Path.{◌≡◌, ap, ap₂, ◌∙◌}
use native.Mathlib.Omega.{arith}
use lib.ListN.{length, get_or}
use Rattle.card.specs.Card.{SHORT, LANE}
use Rattle.instr.specs.Decode.{got, no, lanes_at}
use Rattle.instr.specs.Inner.Steps.{GoodUpTo}
use Rattle.instr.proofs.Items.{lane-good, lane-bad, lane-cut}

-- k of the sixteen are passed
pub record Passing (s : List ℕ) (p k : ℕ) : Type 0 where
  pub most : k ≤ 16
  pub inside : p + k ≤ length s
  pub same : lanes_at 16 s p ≡ lanes_at (16 - k) s (p + k)

step : (s : List ℕ) (p k : ℕ) → lanes_at 16 s p ≡ lanes_at (16 - k) s (p + k) → k < 16 → lanes_at 16 s p ≡ lanes_at (suc (16 - (k + 1))) s (p + k)
step s p k e h = let z : 16 - k ≡ suc (16 - (k + 1)) = omega arith in e ∙ ap (λ (n : ℕ). lanes_at n s (p + k)) z

module _ {s : List ℕ} {p k : ℕ} (w : Passing s p k) where
  pub passes : k < 16 → p + k < length s → get_or s (p + k) 0 < 32 → Passing s p (k + 1)
  unfolding lanes_at
  passes h l b =
      let z : p + k + 1 ≡ p + (k + 1) = omega arith in
      record {
        most = omega arith;
        inside = omega arith;
        same = step s p k w.same h ∙ rw (lane-good s (p + k) 32 l b) (ap (lanes_at (16 - (k + 1)) s) z);
      }

-- the answer that it means
module _ {s : List ℕ} {p k : ℕ} (w : GoodUpTo s p k) where
  pub scanned-all : 16 ≤ k → lanes_at 16 s p ≡ got 0 (p + 16)
  unfolding lanes_at
  scanned-all h =
      let z : 16 - k ≡ 0 = omega arith in
      let e : p + k ≡ p + 16 = omega (arith, w.most) in
      w.same ∙ ap₂ (λ (n q : ℕ). lanes_at n s q) z e

  pub scanned-bad : k < 16 → p + k < length s → lanes_at 16 s p ≡ no LANE (p + k)
  unfolding lanes_at
  scanned-bad h l =
      let b : 32 ≤ get_or s (p + k) 0 = ⊎_elim (λ o. absurd (omega arith)) (λ b. b) (w.stops h) in
      step s p k w.same h ∙ rw (lane-bad s (p + k) 32 l b)

  pub scanned-cut : k < 16 → length s ≤ p + k → lanes_at 16 s p ≡ no SHORT (length s)
  unfolding lanes_at
  scanned-cut h l = step s p k w.same h ∙ rw (lane-cut s (p + k) 32 l)
