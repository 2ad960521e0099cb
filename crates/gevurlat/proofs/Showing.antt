-- Three numbers and the results, one after the other, are the text of an answer, and there is room for each.
use Prim.Native.Nat.{ℕ, ◌+◌, ◌*◌, ◌/◌, ◌^◌, ◌≤◌, ◌<◌}
use mathlib.Core.Path.{◌≡◌, sym, ◌∙◌}
use mathlib.Core.List.{List, [], ◌∷◌, ◌++◌, append-nil}
use native.Mathlib.Omega.{arith}
use borrow.Author.Tests.{eq-eqb, ne_eqb}
use lib.ListN.{length, take, length-append}
use lib.Seq.{length-take-le}
use Rattle.io.specs.Counts.{IsPrefixLen}
use Rattle.card.specs.Card.{DONE}
use Rattle.card.specs.declared.Answer.{Answer}
use Rattle.limits.specs.Limits.{slot}
use Rattle.text.specs.Append.{Appends}
use Rattle.text.specs.Decimal.{decimal}
use Rattle.text.specs.Words.{blank, newline}
use Rattle.text.proofs.Appending.{both-appended, room-left, text-grows}
use Rattle.text.proofs.Decimals.{decimal-is, decimal-short}
use Rattle.gevurlat.specs.Text.{lines, result_lines, Shown}
use Rattle.gevurlat.proofs.Lines.{lines-length}

number_short : (n last : ℕ) → n < 2 ^ 64 → length (decimal n ++ last ∷ []) ≤ 21
number_short n last h = omega (arith, length-append (decimal n) (last ∷ []), decimal-short n h)

-- a text from the front on: how far it goes, and the text
from_front : {bytes before after : List ℕ} {next : ℕ} → Appends bytes before 0 next after → length bytes ≤ length before
    → IsPrefixLen next after × (take next after ≡ bytes)
from_front {after = after} {next} p room =
    let within : next + 0 ≤ length after = room-left 0 p (omega arith) in
    ((omega arith, sym (length-take-le next after (omega arith))), text-grows p (omega arith))

module _ (a : Answer) (small-code : a.code < 2 ^ 8) (small-place : a.place < 2 ^ 64) (small-steps : a.steps < 2 ^ 32) (results : List ℕ)
    {out₀ out₁ : List ℕ} {i : ℕ} (room : 63 + 3 * length results ≤ length out₀)
    (p : Appends (decimal a.code ++ blank ∷ []) out₀ 0 i out₁) where
  code-short : length (decimal a.code ++ blank ∷ []) ≤ 21
  code-short = number_short a.code blank (omega (arith, small-code))

  pub place-room : i + 21 ≤ length out₁
  place-room = room-left 21 p (omega (arith, code-short))

  module _ {out₂ : List ℕ} {j : ℕ} (q : Appends (decimal a.place ++ blank ∷ []) out₁ i j out₂) where
    place_short : length (decimal a.place ++ blank ∷ []) ≤ 21
    place_short = number_short a.place blank (omega (arith, small-place))

    abbrev two : List ℕ
    two = (decimal a.code ++ blank ∷ []) ++ (decimal a.place ++ blank ∷ [])

    two-short : length two ≤ 42
    two-short = omega (arith, code-short, place_short, length-append (decimal a.code ++ blank ∷ []) (decimal a.place ++ blank ∷ []))

    two_made : Appends two out₀ 0 j out₂
    two_made = both-appended p q (omega (arith, code-short, place_short))

    pub steps-room : j + 21 ≤ length out₂
    steps-room = room-left 21 two_made (omega (arith, two-short))

    module _ {out₃ : List ℕ} {k : ℕ} (r : Appends (decimal a.steps ++ newline ∷ []) out₂ j k out₃) where
      steps-short : length (decimal a.steps ++ newline ∷ []) ≤ 21
      steps-short = number_short a.steps newline (omega (arith, small-steps))

      abbrev row : List ℕ
      row = two ++ (decimal a.steps ++ newline ∷ [])

      row-short : length row ≤ 63
      row-short = omega (arith, two-short, steps-short, length-append two (decimal a.steps ++ newline ∷ []))

      made : Appends row out₀ 0 k out₃
      made = both-appended two_made r (omega (arith, two-short, steps-short))

      pub lines-room : k + 3 * length results ≤ length out₃
      lines-room = room-left (3 * length results) made (omega (arith, row-short))

      shows : (text : List ℕ) → text ≡ row ++ result_lines a.code results → Shown a results text
      shows text e =
          record {
            code = decimal a.code;
            place = decimal a.place;
            steps = decimal a.steps;
            code_is = decimal-is a.code;
            place_is = decimal-is a.place;
            steps_is = decimal-is a.steps;
            whole = e;
          }

      pub row-alone : (a.code ≡ DONE → ⊥) → IsPrefixLen k out₃ × Shown a results (take k out₃)
      row-alone f =
          let w = from_front made (omega (arith, row-short)) in
          (w.0, shows (take k out₃) (w.1 ∙ rw (ne_eqb a.code DONE f) (sym (append-nil row))))

      pub with-lines : a.code ≡ DONE → {out₄ : List ℕ} {end : ℕ} → Appends (lines results (length results / slot)) out₃ k end out₄
          → IsPrefixLen end out₄ × Shown a results (take end out₄)
      with-lines done {out₄} {end} l =
          let long : length row + length (lines results (length results / slot)) ≤ length out₀ =
          omega (arith, row-short, lines-length results (length results / slot) (omega arith)) in
          let w = from_front (both-appended made l (omega arith)) (omega (arith, length-append row (lines results (length results / slot)))) in
          (w.0, shows (take end out₄) (w.1 ∙ rw (eq-eqb a.code DONE done)))
