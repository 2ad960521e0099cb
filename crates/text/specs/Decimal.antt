-- Numbers in decimal, in ASCII.
use Rattle.std.specs.Prelude.{ℕ, zero, suc, ◌/◌, ◌%◌, ◌≡◌, List, [], ◌∷◌, ◌++◌, ℤ, pos, negsuc}
use Rattle.io.specs.Digits.{last_digits, hex_digit_ascii, IsDigitCount}

-- the digits, the most significant first, and none of zero; k is a measure, and any from n on gives the same
unfoldable pub leading : ℕ → ℕ → List ℕ
leading zero n = []
leading (suc k) zero = []
leading (suc k) (suc n) = leading k (suc n / 10) ++ hex_digit_ascii (suc n % 10) ∷ []

unfoldable pub decimal : ℕ → List ℕ
decimal n = leading n (n / 10) ++ hex_digit_ascii (n % 10) ∷ []

-- the same said apart from any computation: in the fewest digits
pub record Decimal (n : ℕ) (text : List ℕ) : Type 0 where
  pub count : ℕ
  pub fewest : IsDigitCount 10 1 n count
  pub spelled : text ≡ last_digits 10 count n

abbrev pub minus : ℕ
minus = 45

-- an integer: a minus sign before the digits of one below zero
unfoldable pub spelled : ℤ → List ℕ
spelled (pos n) = decimal n
spelled (negsuc n) = minus ∷ decimal (suc n)
