-- Rules in an order: the first that is broken is one.
use Prim.Native.Nat.{ℕ, zero, suc, ◌<◌}
use mathlib.Core.Path.{◌≡◌, sym, subst}
use mathlib.Core.List.{List, [], ◌∷◌}
use mathlib.Core.Logic.{⊎_elim}
use native.Mathlib.Nat.{eq-or-lt_of_le}
use native.Mathlib.Omega.{arith}
use Rattle.opcode.proofs.Every.{below-or-past}

-- rules in the order in which they are asked; past the last nothing is kept
abbrev pub asked : List {1} (Type 0) → ℕ → Type 0
asked [] k = ⊥
asked (q ∷ qs) zero = q
asked (q ∷ qs) (suc k) = asked qs k

-- the rules below k are kept
abbrev pub Kept : (ℕ → Type 0) → ℕ → Type 0
Kept Q k = (j : ℕ) → j < k → Q j

pub none-asked : (Q : ℕ → Type 0) → Kept Q 0
none-asked Q j l = absurd (let z : ⊥ = omega arith in z)

-- and the k-th too
pub more : (Q : ℕ → Type 0) (k : ℕ) → Kept Q k → Q k → Kept Q (suc k)
more Q k kept q j l = ⊎_elim (λ e. subst Q (sym e) q) (kept j) (eq-or-lt_of_le (omega arith))

-- and the k-th is not
pub record Stop (Q : ℕ → Type 0) (k : ℕ) : Type 0 where
  pub kept : Kept Q k
  pub broken : Q k → ⊥

pub stop-once : {Q : ℕ → Type 0} {j k : ℕ} → Stop Q j → Stop Q k → j ≡ k
stop-once {Q} {j} {k} a b =
    ⊎_elim
    (λ l. absurd (a.broken (b.kept j l)))
    (λ g. ⊎_elim (λ e. sym e) (λ l. absurd (b.broken (a.kept k l))) (eq-or-lt_of_le g))
    (below-or-past k j)
