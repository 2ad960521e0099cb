-- The shortest form of an integer, as a function, and what writing it does to a buffer.
use Rattle.std.specs.Prelude.{ℕ, zero, suc, ◌+◌, ◌-◌, ◌/◌, ◌%◌, ◌^◌, Option, Some, None, List, [], ◌∷◌, Bool, true, false, cond, ltb, leb, length, ℤ, pos, negsuc}
use Rattle.std.proofs.lemmas.List.Edits.{sets}
use Rattle.std.specs.Int.Signed.{mag}
use Rattle.leb128.specs.Bits.{integer}

-- the lowest seven bits, and the integer without them
abbrev pub low : ℤ → ℕ
low (pos n) = n % 2 ^ 7
low (negsuc n) = 2 ^ 7 - suc (n % 2 ^ 7)

abbrev pub high : ℤ → ℤ
high (pos n) = pos (n / 2 ^ 7)
high (negsuc n) = negsuc (n / 2 ^ 7)

-- n and -n - 1 take one byte where n is below this
abbrev pub limit_of : Bool → ℕ
limit_of false = 2 ^ 7
limit_of true = 2 ^ 6

-- in at most f bytes
unfoldable pub shortest : ℕ → ℕ → ℤ → List ℕ
shortest limit zero z = []
shortest limit (suc f) z = cond (ltb (mag z) limit) (low z ∷ []) ((2 ^ 7 + low z) ∷ shortest limit f (high z))

-- n + 1 bytes are always enough for n and for -n - 1
abbrev pub shortest_of : ℕ → ℤ → List ℕ
shortest_of limit z = shortest limit (suc (mag z)) z

-- of the integer that N bits hold
unfoldable pub bytes_of : Bool → ℕ → ℕ → List ℕ
bytes_of sign N v = shortest_of (limit_of sign) (integer sign N v)

-- writing bs from a place of a buffer on, if there is room
unfoldable pub wrote_at : List ℕ → ℕ → List ℕ → Option ℕ
wrote_at bs at out = cond (leb (at + length bs) (length out)) (Some (at + length bs)) None

unfoldable pub put_at : List ℕ → ℕ → List ℕ → List ℕ
put_at bs at out = cond (leb (at + length bs) (length out)) (sets out at bs) out
