-- What the two loops over the results write.
use Prim.Native.Nat.{ℕ, zero, suc, ◌+◌, ◌*◌, ◌/◌, ◌%◌, ◌≤◌, ◌<◌}
use mathlib.Core.Path.{◌≡◌, refl, ap, ap₂, sym, ◌∙◌}
use mathlib.Core.List.{List, [], ◌∷◌, ◌++◌}
use native.Mathlib.Omega.{arith}
use native.Mathlib.Numerals.{add-one}
use lib.ListN.{length, take, drop, get_or, length-append, length-take, length-drop}
use lib.Seq.{length-take-le}
use Rattle.io.specs.Digits.{hex_digit_ascii}
use Rattle.limits.specs.Limits.{slot}
use Rattle.text.specs.Words.{newline}
use Rattle.text.proofs.Appending.{take_more}
use Rattle.gevurlat.specs.Text.{hexadecimal, lines}

hexadecimal-append : (xs ys : List ℕ) → hexadecimal (xs ++ ys) ≡ hexadecimal xs ++ hexadecimal ys
unfolding hexadecimal
hexadecimal-append [] ys = refl
hexadecimal-append (x ∷ xs) ys = ap (λ (l : List ℕ). hex_digit_ascii (x / 16) ∷ hex_digit_ascii (x % 16) ∷ l) (hexadecimal-append xs ys)

pub hexadecimal-length : (xs : List ℕ) → length (hexadecimal xs) ≡ 2 * length xs
unfolding hexadecimal
hexadecimal-length [] = refl
hexadecimal-length (x ∷ xs) = omega (arith, hexadecimal-length xs)

pub hexadecimal-none : [] ≡ hexadecimal []
unfolding hexadecimal
hexadecimal-none = refl

pub hexadecimal-more : (xs : List ℕ) (i high low : ℕ) → i < length xs → high ≡ hex_digit_ascii (get_or xs i 0 / 16) → low ≡ hex_digit_ascii (get_or xs i 0 % 16)
    → hexadecimal (take i xs) ++ (high ∷ [] ++ low ∷ []) ≡ hexadecimal (take (i + 1) xs)
unfolding hexadecimal
hexadecimal-more xs i high low h p q =
    ap₂ (λ (x y : ℕ). hexadecimal (take i xs) ++ (x ∷ [] ++ y ∷ [])) p q ∙ sym (hexadecimal-append (take i xs) (get_or xs i 0 ∷ []))
    ∙ ap hexadecimal (take_more xs i h)

pub hexadecimal-place : (xs : List ℕ) (i : ℕ) → i ≤ length xs → length (hexadecimal (take i xs)) ≡ 2 * i
hexadecimal-place xs i h = omega (arith, hexadecimal-length (take i xs), length-take-le i xs h)

pub lines_none : (xs : List ℕ) → [] ≡ lines xs 0
unfolding lines
lines_none xs = refl

pub lines_more : (xs : List ℕ) (n k : ℕ) → k ≡ slot → lines xs n ++ (hexadecimal (take k (drop (slot * n) xs)) ++ newline ∷ []) ≡ lines xs (n + 1)
unfolding lines
lines_more xs n k e = rw (add-one, e)

pub lines-length : (xs : List ℕ) (n : ℕ) → slot * n ≤ length xs → length (lines xs n) ≡ 33 * n
unfolding lines
lines-length xs zero h = refl
lines-length xs (suc n) h =
    simp (length-append, hexadecimal-length, length-take, length-drop) (omega (arith, lines-length xs n (omega arith)))
