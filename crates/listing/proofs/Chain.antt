-- The parts of a line, one after the other, are the line.
use Prim.Native.Nat.{ℕ, ◌+◌, ◌*◌, ◌≤◌}
use mathlib.Core.Path.{◌≡◌, sym, ap, ◌∙◌}
use mathlib.Core.List.{List, [], ◌∷◌, ◌++◌, map, append_assoc}
use native.Mathlib.Omega.{arith}
use lib.ListN.{length}
use Rattle.text.specs.Decimal.{decimal, spelled}
use Rattle.text.specs.Words.{blank, newline, joined}
use Rattle.text.specs.Append.{Appends}
use Rattle.opcode.specs.Kind.{Kind}
use Rattle.opcode.specs.Table.{latest, carried}
use Rattle.opcode.specs.Number.{class_of, name_of}
use Rattle.opcode.specs.Entry.{class_in}
use Rattle.opcode.proofs.Entries.{class-in}
use Rattle.mnemonic.proofs.Names.{name-of-id}
use Rattle.instr.specs.declared.Instr.{Instr}
use Rattle.instr.specs.Layout.{row_in}
use Rattle.checker.specs.Walk.{KindBytes}
use Rattle.checker.proofs.Held.{held-long}
use Rattle.listing.specs.Line.{bracketed, mnemonic, immediates, line}
use Rattle.listing.specs.Walk.{longest}
use Rattle.listing.specs.Inner.Parts.{led, Adds, Shows}
use Rattle.listing.proofs.Parts.{adds_same, adds-most, one_byte, adds-both, adds-ends, joined-led}

module _ {kinds : List ℕ} {depth id entry : ℕ} {i : Instr} {room : ℕ} (w : Shows kinds depth id entry i room) where
  pub name-is : name_of id ≡ mnemonic i
  name-is = ap name_of w.id_is ∙ name-of-id i.first i.number w.typed.first

  pub class-is : {class : ℕ} → class ≡ class_in entry → class ≡ class_of (row_in latest i)
  class-is e = e ∙ class-in (carried w.code) w.entry_is ∙ ap class_of (sym w.row)

  pub kinds_long : depth ≤ length kinds
  kinds_long = held-long w.holds

whole : (p : ℕ) (κs : List Kind) (i : Instr)
    → (decimal p ++ blank ∷ []) ++ (bracketed κs ++ ((blank ∷ []) ++ (mnemonic i ++ (led (map spelled (immediates i)) ++ newline ∷ [])))) ≡ line p κs i
unfolding line joined led
whole p κs i = simp (append_assoc, joined-led)

module _ {kinds : List ℕ} {depth id entry : ℕ} {i : Instr} {out o₁ : List ℕ} (at : ℕ) {n₁ : ℕ} (w : Shows kinds depth id entry i (length out))
    (place : Adds 21 (decimal at ++ blank ∷ []) out 0 n₁ o₁) where
  pub after-place : (n₁ ≤ 21) × (length o₁ ≡ length out)
  after-place = adds-ends place (omega (arith, w.enough))

  module _ {o₂ : List ℕ} {n₂ : ℕ} (stack : (κs : List Kind) → KindBytes kinds depth κs → Adds (5 * depth + 2) (bracketed κs) o₁ n₁ n₂ o₂) where
    pub after-stack : (n₂ ≤ 23 + 5 * depth) × (length o₂ ≡ length out)
    after-stack =
        let e = adds-ends (stack w.stack w.holds) (omega (arith, after-place, w.most, w.enough)) in
        (omega (arith, e.0, after-place.0), e.1 ∙ after-place.1)

    module _ {o₃ : List ℕ} {n₃ : ℕ} (gap : Appends (blank ∷ []) o₂ n₂ n₃ o₃) where
      pub after-gap : (n₃ ≤ 24 + 5 * depth) × (length o₃ ≡ length out)
      after-gap =
          let e = adds-ends (one_byte gap) (omega (arith, after-stack, w.most, w.enough)) in (omega (arith, e.0, after-stack.0), e.1 ∙ after-stack.1)

      module _ {o₄ : List ℕ} {n₄ : ℕ} (name : Adds 32 (name_of id) o₃ n₃ n₄ o₄) where
        pub after-name : (n₄ ≤ 56 + 5 * depth) × (length o₄ ≡ length out)
        after-name = let e = adds-ends name (omega (arith, after-gap, w.most, w.enough)) in (omega (arith, e.0, after-gap.0), e.1 ∙ after-gap.1)

        pub is-line : {o₅ o₆ : List ℕ} {n₅ n₆ : ℕ} → Adds 336 (led (map spelled (immediates i))) o₄ n₄ n₅ o₅ → Appends (newline ∷ []) o₅ n₅ n₆ o₆
            → (κs : List Kind) → KindBytes kinds depth κs
            → Adds longest (line at κs i) out 0 n₆ o₆
        is-line numbers last κs held =
            let most = w.most in
            let room = w.enough in
            adds-most (omega arith)
            (adds_same (ap
            (λ (x : List ℕ). (decimal at ++ blank ∷ []) ++ (bracketed κs ++ ((blank ∷ []) ++ (x ++ (led (map spelled (immediates i)) ++ newline ∷ [])))))
            (name-is w)
            ∙ whole at κs i)
            (adds-both place
            (adds-both (stack κs held)
            (adds-both (one_byte gap)
            (adds-both name (adds-both numbers (one_byte last) (omega (arith, after-name))) (omega (arith, after-gap)))
            (omega (arith, after-stack)))
            (omega (arith, after-place)))
            (omega arith)))
