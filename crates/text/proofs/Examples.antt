-- Worked examples: zero, the largest u64, and the least i64, whose size no i64 holds.
use mathlib.Core.Path.{◌≡◌, refl}
use mathlib.Core.List.{[], ◌∷◌}
use lib.IntN.{pos, negsuc}
use Rattle.text.specs.Decimal.{leading, decimal, spelled}
use Rattle.text.specs.Words.{joined}

zero : spelled (pos 0) ≡ 48 ∷ []
unfolding leading decimal spelled
zero = refl

largest : decimal 18446744073709551615 ≡ 49 ∷ 56 ∷ 52 ∷ 52 ∷ 54 ∷ 55 ∷ 52 ∷ 52 ∷ 48 ∷ 55 ∷ 51 ∷ 55 ∷ 48 ∷ 57 ∷ 53 ∷ 53 ∷ 49 ∷ 54 ∷ 49 ∷ 53 ∷ []
unfolding leading decimal
largest = refl

least : spelled (negsuc 9223372036854775807) ≡ 45 ∷ 57 ∷ 50 ∷ 50 ∷ 51 ∷ 51 ∷ 55 ∷ 50 ∷ 48 ∷ 51 ∷ 54 ∷ 56 ∷ 53 ∷ 52 ∷ 55 ∷ 55 ∷ 53 ∷ 56 ∷ 48 ∷ 56 ∷ []
unfolding leading decimal spelled
least = refl

words : joined (spelled (pos 27) ∷ spelled (negsuc 0) ∷ spelled (pos 5) ∷ []) ≡ 50 ∷ 55 ∷ 32 ∷ 45 ∷ 49 ∷ 32 ∷ 53 ∷ []
unfolding leading decimal spelled joined
words = refl
