-- What a version has, and what is asked of one that is not known.
use Prim.Native.Nat.{ℕ, ◌<◌, ◌≤◌}
use mathlib.Core.Bool.{Bool, true, false, not}
use mathlib.Core.List.{List}
use mathlib.Core.Path.{◌≡◌, refl, sym, ap, ◌∙◌}
use native.Mathlib.Omega.{arith}
use borrow.Author.Tests.{eq-eqb, ne_eqb, le-leb, lt-leb, not-true, not-false}
use Rattle.card.specs.Card.{DONE, VERSION}
use Rattle.opcode.specs.Table.{Row, carried, float, unassigned, known, latest, PREFIX, row_at}
use Rattle.opcode.specs.Number.{class_of, row_of, since_of}
use Rattle.opcode.proofs.Versions.{row-since, row-latest}
use Rattle.instr.specs.Layout.{row_in, refusal}
use Rattle.instr.specs.Decode.{decode_at, decode_in}
use Rattle.instr.specs.Encode.{fault_of, fault}
use Rattle.instr.specs.declared.Instr.{Instr}

module _ (ver first n : ℕ) where
  -- a first byte that it has not yet, and one that it has
  module _ (d : first ≡ PREFIX → ⊥) where
    pub row-not-yet : ver < since_of first → unassigned ≡ row_at ver first n
    row-not-yet h = sym (row-since ver first n ∙ rw (ne_eqb first PREFIX d, lt-leb (since_of first) ver h))

    pub row-already : since_of first ≤ ver → row_at latest first n ≡ row_at ver first n
    row-already h = sym (row-since ver first n ∙ rw (ne_eqb first PREFIX d, le-leb (since_of first) ver h))

  pub row-vector : first ≡ PREFIX → row_at latest first n ≡ row_at ver first n
  row-vector e = rw (eq-eqb first PREFIX e)

-- ---- whether the version is known was asked, and k was answered

module _ (ver : ℕ) {k : Bool} (is : k ≡ known ver) where
  pub it-is : not k ≡ false → known ver ≡ true
  it-is e = sym is ∙ not-false k e

  it-is-not : not k ≡ true → known ver ≡ false
  it-is-not e = sym is ∙ not-true k e

  pub decode-known : (s : List ℕ) (at : ℕ) → not k ≡ false → decode_in ver s at ≡ decode_at ver s at
  decode-known s at e = rw (it-is e)

  pub decode-unknown : (s : List ℕ) (at : ℕ) → not k ≡ true → decode_in ver s at ≡ refusal VERSION 3
  decode-unknown s at e = rw (it-is-not e)

  pub fault-unknown : (i : Instr) → not k ≡ true → VERSION ≡ fault ver i
  fault-unknown i e = rw (it-is-not e)

  -- what was asked of the id
  pub fault-by : (i : Instr) (id : ℕ) {c : ℕ} → not k ≡ false → row_of id ≡ row_in ver i → c ≡ fault_of (row_of id) i → c ≡ fault ver i
  fault-by i id e g f = f ∙ rw (it-is e, g)

-- an instruction with nothing wrong is one that the version has, and the latest too
module _ (ver : ℕ) (i : Instr) (id : ℕ) {c : ℕ} (e : row_of id ≡ row_in ver i) (f : c ≡ fault_of (row_of id) i) where
  pub class-by : c ≡ DONE → {class : ℕ} → class ≡ class_of (row_of id) → class ≡ class_of (row_in latest i)
  unfolding fault_of
  class-by z g = g ∙ ap class_of (e ∙ by (row_in ver i) refl (sym (f ∙ ap (λ (r : Row). fault_of r i) e) ∙ z))
    where
      by : (r : Row) → row_in ver i ≡ r → fault_of r i ≡ DONE → r ≡ row_in latest i
      by (carried c) e f = sym (row-latest ver i.first i.number e)
      by float e f = absurd (omega (arith, f))
      by unassigned e f = absurd (omega (arith, f))
