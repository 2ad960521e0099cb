-- Any bit of a vector: its number is zero where its two halves of 64 bits are.
use mathlib.Core.Path.{◌≡◌, sym, ap, ◌∙◌, subst}
use mathlib.Core.Bool.{Bool, not}
use mathlib.Core.List.{List}
use Prim.Native.Nat.{ℕ, ◌+◌, ◌*◌, ◌%◌, ◌^◌, ◌<◌}
use native.Mathlib.Nat.{div-one, mod-eq_of_lt}
use native.Mathlib.Omega.{arith}
use lib.Dec.{eqb}
use borrow.Author.Tests.{eq-eqb, ne_eqb}
use mir.Syntax.{w64}
use Rattle.operation.specs.Vector.{number, lane, Sixteen}
use Rattle.operation.specs.Op.{truth}
use Rattle.operation.proofs.Laws.Number.{number_lt, field-join}

halves : (v : List ℕ) → Sixteen v → number v ≡ lane w64 v 0 + 2 ^ 64 * lane w64 v 1
unfolding lane
halves v s =
    sym (ap (λ (n : ℕ). n % 2 ^ 128) (div-one (number v)) ∙ mod-eq_of_lt (subst (λ (n : ℕ). number v < 2 ^ (8 * n)) s.long (number_lt v s.bytes)))
    ∙ field-join 64 (number v) 0

pub some-low : (v : List ℕ) → Sixteen v → {r : ℕ} → r ≡ lane w64 v 0 → (r ≡ 0 → ⊥) → 1 ≡ truth (not (eqb (number v) 0))
some-low v s {r} e n = sym (ap (λ (b : Bool). truth (not b)) (ne_eqb (number v) 0 (λ z. n (omega (arith, halves v s)))))

pub some-high : (v : List ℕ) → Sixteen v → {r : ℕ} → r ≡ lane w64 v 1 → (r ≡ 0 → ⊥) → 1 ≡ truth (not (eqb (number v) 0))
some-high v s {r} e n = sym (ap (λ (b : Bool). truth (not b)) (ne_eqb (number v) 0 (λ z. n (omega (arith, halves v s)))))

pub none : (v : List ℕ) → Sixteen v → {r t : ℕ} → r ≡ lane w64 v 0 → t ≡ lane w64 v 1 → r ≡ 0 → t ≡ 0 → 0 ≡ truth (not (eqb (number v) 0))
none v s {r} {t} e f z y = sym (ap (λ (b : Bool). truth (not b)) (eq-eqb (number v) 0 (omega (arith, halves v s))))
