-- What the program prints of an answer (01, "Numbers on the inspector's card", last paragraph), in ASCII.
use Rattle.std.specs.Prelude.{ℕ, zero, suc, ◌*◌, ◌/◌, ◌%◌, ◌≡◌, cond, List, [], ◌∷◌, ◌++◌, eqb, length, take, drop}
use Rattle.io.specs.Digits.{hex_digit_ascii}
use Rattle.card.specs.Card.{DONE}
use Rattle.card.specs.declared.Answer.{Answer}
use Rattle.limits.specs.Limits.{slot}
use Rattle.text.specs.Decimal.{Decimal}
use Rattle.text.specs.Words.{blank, newline}

-- two lowercase hexadecimal digits a byte, byte 0 first
unfoldable pub hexadecimal : List ℕ → List ℕ
hexadecimal [] = []
hexadecimal (b ∷ bs) = hex_digit_ascii (b / 16) ∷ hex_digit_ascii (b % 16) ∷ hexadecimal bs

-- the n-th result's sixteen bytes
abbrev pub result_at : List ℕ → ℕ → List ℕ
result_at results n = take slot (drop (slot * n) results)

-- a line for each of the first n results
unfoldable pub lines : List ℕ → ℕ → List ℕ
lines results zero = []
lines results (suc n) = lines results n ++ (hexadecimal (result_at results n) ++ newline ∷ [])

-- the results are shown after DONE only
abbrev pub result_lines : ℕ → List ℕ → List ℕ
result_lines code results = cond (eqb code DONE) (lines results (length results / slot)) []

-- code, place and steps with single blanks and a line end, then the results
pub record Shown (a : Answer) (results text : List ℕ) : Type 0 where
  pub code : List ℕ
  pub place : List ℕ
  pub steps : List ℕ
  pub code_is : Decimal a.code code
  pub place_is : Decimal a.place place
  pub steps_is : Decimal a.steps steps
  pub whole : text ≡ (code ++ blank ∷ []) ++ (place ++ blank ∷ []) ++ (steps ++ newline ∷ []) ++ result_lines a.code results
