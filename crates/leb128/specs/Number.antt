-- What reading finds, as a function: Core 2.0, 5.2.2, from the first byte on.
use Rattle.std.specs.Prelude.{ℕ, suc, ◌+◌, ◌-◌, ◌^◌, List, [], ◌∷◌, Result, Ok, Err, Bool, true, false, cond, drop, ltb, leb, ℤ, pos, ◌+ℤ◌, ◌-ℤ◌, ◌*ℤ◌}
use Rattle.leb128.specs.Bits.{bits}
use Rattle.leb128.specs.declared.reading.Number.{Number}
use Rattle.leb128.specs.declared.reading.NoNumber.{NoNumber}
use Rattle.leb128.specs.declared.reading.NoNumber.TheVariants.{Short, Wrong}

-- an integer and how many bytes it takes; bytes that stop too early; no integer of this width
pub data Read : Type 0 where
  is : ℤ → ℕ → Read
  cut : Read
  wrong : Read

-- a byte n < 2^7, the last
unfoldable pub last_of : Bool → ℕ → ℕ → Read
last_of false N n = cond (ltb n (2 ^ N)) (is (pos n) 1) wrong
last_of true N n =
    cond (ltb n (2 ^ 6))
    (cond (ltb n (2 ^ (N - 1))) (is (pos n) 1) wrong)
    (cond (leb (2 ^ 7) (n + 2 ^ (N - 1))) (is (pos n -ℤ pos (2 ^ 7)) 1) wrong)

-- a byte n ≥ 2^7, before what follows it
unfoldable pub before : ℕ → Read → Read
before n (is m k) = is (pos (2 ^ 7) *ℤ m +ℤ (pos n -ℤ pos (2 ^ 7))) (suc k)
before n cut = cut
before n wrong = wrong

unfoldable pub int_of : Bool → ℕ → List ℕ → Read
int_of sign N [] = cut
int_of sign N (n ∷ bs) =
    cond (ltb n (2 ^ 7))
    (last_of sign N n)
    (cond (ltb 7 N) (before n (int_of sign (N - 7) bs)) wrong)

-- the answer: a number of these bits and so many bytes
abbrev pub number_of : ℕ → ℕ → Result Number NoNumber
number_of v n = Ok (record { value = v; len = n })

abbrev pub bits_of : ℕ → Read → Result Number NoNumber
bits_of N (is z k) = number_of (bits N z) k
bits_of N cut = Err Short
bits_of N wrong = Err Wrong

-- at a place of s
unfoldable pub number_at : Bool → ℕ → List ℕ → ℕ → Result Number NoNumber
number_at sign N s at = bits_of N (int_of sign N (drop at s))
