-- What a test that antt computes over a run of numbers says of each of them.
use mathlib.Core.Path.{subst}
use mathlib.Core.Bool.{Bool, true, ◌&&◌}
use mathlib.Core.List.{List, [], ◌∷◌}
use mathlib.Core.Logic.{◌⊎◌, inl, inr, ⊎_elim}
use Prim.Native.Nat.{ℕ, zero, suc, ◌+◌, ◌≤◌, ◌<◌}
use native.Mathlib.Nat.{eq-or-lt_of_le}
use native.Mathlib.Decide.{dec_lt}
use native.Mathlib.Omega.{arith}
use lib.Dec.{T}
use mir.Facts.{and_yes}
use Rattle.opcode.specs.Lists.{up_from}

abbrev pub every : (ℕ → Bool) → List ℕ → Bool
every P [] = true
every P (k ∷ ks) = P k && every P ks

pub from : (P : ℕ → Bool) (a n : ℕ) → T (every P (up_from a n)) → (x : ℕ) → a ≤ x → x < a + n → T (P x)
from P a zero t x h l = let none : ⊥ = omega arith in absurd none
from P a (suc n) t x h l =
    let both = and_yes (P a) (every P (up_from (suc a) n)) t in
    ⊎_elim (λ e. subst (λ (y : ℕ). T (P y)) e both.0) (λ m. from P (suc a) n both.1 x m (omega arith)) (eq-or-lt_of_le h)

pub below : (P : ℕ → Bool) (n : ℕ) → T (every P (up_from 0 n)) → (x : ℕ) → x < n → T (P x)
below P n t x l = from P 0 n t x (omega arith) (omega arith)

pub below-or-past : (n x : ℕ) → (x < n) ⊎ (n ≤ x)
below-or-past n x = elim (dec_lt x n) [ yes h ↦ inl h | no h ↦ inr (omega arith) ]
