-- What is left of a line with its place aside is all of it but the place and the blank after it.
use Prim.Native.Nat.{ℕ}
use mathlib.Core.Path.{◌≡◌, refl, ap, ◌∙◌}
use mathlib.Core.Bool.{Bool, true, false, not}
use mathlib.Core.List.{List, [], ◌∷◌, ◌++◌, append_assoc}
use borrow.Author.Tests.{ne_eqb}
use Rattle.text.specs.Decimal.{decimal}
use Rattle.text.specs.Words.{blank, newline, joined, Without}
use Rattle.opcode.specs.Kind.{Kind}
use Rattle.instr.specs.declared.Instr.{Instr}
use Rattle.listing.specs.Line.{words, line}
use Rattle.listing.specs.Aside.{aside_from}

-- the line without its place
abbrev pub unplaced : List Kind → Instr → List ℕ
unplaced κs i = joined (words κs i)

pub place-passed : (xs more : List ℕ) → Without blank xs → aside_from true (xs ++ blank ∷ more) ≡ aside_from false more
place-passed [] more p = refl
place-passed (x ∷ xs) more p = ap (λ (t : Bool). aside_from (not t) (xs ++ blank ∷ more)) (ne_eqb x blank p.0) ∙ place-passed xs more p.1

pub line_kept : (xs more : List ℕ) → Without newline xs → aside_from false (xs ++ newline ∷ more) ≡ xs ++ newline ∷ aside_from true more
line_kept [] more p = refl
line_kept (x ∷ xs) more p =
    ap (λ (t : Bool). x ∷ aside_from t (xs ++ newline ∷ more)) (ne_eqb x newline p.0) ∙ ap (λ (l : List ℕ). x ∷ l) (line_kept xs more p.1)

module _ (p : ℕ) (κs : List Kind) (i : Instr) (more : List ℕ) where
  parted : line p κs i ++ more ≡ decimal p ++ blank ∷ (unplaced κs i ++ newline ∷ more)
  unfolding line joined
  parted = simp append_assoc

  pub line-aside : Without blank (decimal p) → Without newline (unplaced κs i)
      → aside_from true (line p κs i ++ more) ≡ unplaced κs i ++ newline ∷ aside_from true more
  line-aside b n = ap (aside_from true) parted ∙ place-passed (decimal p) (unplaced κs i ++ newline ∷ more) b ∙ line_kept (unplaced κs i) more n
