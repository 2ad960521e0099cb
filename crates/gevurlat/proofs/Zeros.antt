-- A part of a zeroed array is zero.
use Prim.Native.Nat.{ℕ, zero, suc, ◌*◌, ◌≤◌}
use mathlib.Core.Path.{◌≡◌, refl, ap, ◌∙◌, subst}
use mathlib.Core.List.{List, ◌∷◌}
use native.Mathlib.Omega.{arith}
use lib.ListN.{take, replicate}
use Rattle.limits.specs.Limits.{slot}
use Rattle.gevurlat.specs.Program.{memory_bytes, zeros, result_count, PrintsFrom, Prints}

take-zeros : (n m : ℕ) → n ≤ m → take n (replicate m 0) ≡ zeros n
unfolding zeros
take-zeros zero m h = refl
take-zeros (suc n) zero h = absurd (let none : ⊥ = omega arith in none)
take-zeros (suc n) (suc m) h = ap (λ (l : List ℕ). 0 ∷ l) (take-zeros n m (omega arith))

pub prints-zeros : {s text : List ℕ} (m n k : ℕ) → m ≡ memory_bytes → n ≡ slot * result_count s → n ≤ k
    → PrintsFrom s (replicate m 0) (take n (replicate k 0)) text → Prints s text
unfolding zeros
prints-zeros {s} {text} m n k e f h p =
    subst (λ (l : List ℕ). PrintsFrom s l (zeros (slot * result_count s)) text) (ap zeros e)
    (subst (λ (l : List ℕ). PrintsFrom s (zeros m) l text) (take-zeros n k h ∙ ap zeros f) p)
