-- An id stands for its first byte and number: it has their row, and no other pair that is carried has it.
use mathlib.Core.Path.{◌≡◌, sym, ◌∙◌}
use mathlib.Core.Logic.{⊎_elim}
use Prim.Native.Nat.{ℕ, ◌+◌, ◌≤◌, ◌<◌}
use native.Mathlib.Decide.{ℕ_discrete}
use native.Mathlib.Omega.{arith}
use borrow.Author.Tests.{eq-eqb, ne_eqb, lt-ltb, le-ltb}
use Rattle.opcode.specs.Table.{Code, carried, vector_at, latest, plain_at, PREFIX, row_at}
use Rattle.opcode.specs.Number.{id_of, row_of}
use Rattle.opcode.proofs.Every.{below-or-past}
use Rattle.opcode.proofs.Rows.{vector-beyond, row-beyond, row-vector}

-- the three ways to an id
pub data Way (first n : ℕ) : Type 0 where
  byte : (first ≡ PREFIX → ⊥) → id_of first n ≡ first → row_at latest first n ≡ plain_at latest first → Way first n
  number : first ≡ PREFIX → n < 256 → id_of first n ≡ 256 + n → row_at latest first n ≡ vector_at n → Way first n
  beyond : first ≡ PREFIX → 256 ≤ n → id_of first n ≡ 512 → row_at latest first n ≡ vector_at n → Way first n

pub way : (first n : ℕ) → Way first n
way first n =
    elim (ℕ_discrete first PREFIX) [
      | yes e ↦
          ⊎_elim
          (λ l. number e l (simp (eq-eqb first PREFIX e, lt-ltb n 256 l)) (simp (eq-eqb first PREFIX e)))
          (λ h. beyond e h (simp (eq-eqb first PREFIX e, le-ltb n 256 h)) (simp (eq-eqb first PREFIX e)))
          (below-or-past 256 n)
      | no d ↦ byte d (simp (ne_eqb first PREFIX d)) (simp (ne_eqb first PREFIX d))
    ]

plain_row : (id : ℕ) → id < 256 → row_of id ≡ plain_at latest id
unfolding row_of
plain_row id l = simp (lt-ltb id 256 l)

pub row-of-id : (first n : ℕ) → first < 256 → row_of (id_of first n) ≡ row_at latest first n
row-of-id first n l = by (way first n)
  where
    by : Way first n → row_of (id_of first n) ≡ row_at latest first n
    by (byte d i r) = rw (i, r) (plain_row first l)
    by (number e b i r) = rw (i, r) (row-vector n)
    by (beyond e b i r) = rw (i, r) (row-beyond 512 (omega arith) ∙ sym (vector-beyond n b))

pub id-once : (a m b n : ℕ) {c : Code} → a < 256 → b < 256 → row_at latest a m ≡ carried c → id_of a m ≡ id_of b n → (a ≡ b) × (a ≡ PREFIX → m ≡ n)
id-once a m b n {c} la lb e same = by (way a m) (way b n)
  where
    by : Way a m → Way b n → (a ≡ b) × (a ≡ PREFIX → m ≡ n)
    by (byte d i r) (byte d' i' r') = (sym i ∙ same ∙ i', λ f. absurd (d f))
    by (byte d i r) (number f l i' r') = let none : ⊥ = omega arith in absurd none
    by (byte d i r) (beyond f l i' r') = let none : ⊥ = omega arith in absurd none
    by (number f l i r) (byte d' i' r') = let none : ⊥ = omega arith in absurd none
    by (number f l i r) (number f' l' i' r') = (f ∙ sym f', λ g. omega arith)
    by (number f l i r) (beyond f' l' i' r') = let none : ⊥ = omega arith in absurd none
    by (beyond f l i r) w = (cc (vector-beyond m l), λ g. cc (vector-beyond m l))
