-- What a line's fields say.
use Rattle.std.specs.Prelude.{ℕ, ◌+◌, ◌-◌, ◌*◌, ◌==◌, Bool, List, min, cond, ◌&&◌, nat_le, fold}
use Rattle.std.specs.List.{before_first, after_first}

abbrev pub is_blank : ℕ → Bool
is_blank c = c == 32

-- The first field, all up to a blank, and what stands after it.
abbrev pub word_of : List ℕ → List ℕ
word_of = before_first is_blank

abbrev pub after_word : List ℕ → List ℕ
after_word = after_first is_blank

-- Hexadecimal digits in lowercase; any other byte is 0.
abbrev pub digit_of : ℕ → ℕ
digit_of c = cond (nat_le 48 c && nat_le c 57) (c - 48) (cond (nat_le 97 c && nat_le c 102) (c - 97 + 10) 0)

-- In decimal, of such digits; the largest of 32 bits stands for all beyond.
abbrev pub number_of : List ℕ → ℕ
number_of = fold (λ n c. min (10 * n + digit_of c) 4294967295) 0
