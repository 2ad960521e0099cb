-- The memory: a run of bytes read, and a run written (Core 2.0, 4.4.7; 01, "Instructions"). Only these touch it.
use Rattle.std.specs.Prelude.{ℕ, ◌+◌, ◌-◌, List, ◌++◌, length, take, drop, replicate}

-- n bytes from an address on
abbrev pub part : ℕ → ℕ → List ℕ → List ℕ
part n at m = take n (drop at m)

-- bytes that were read, with zeros up to sixteen
abbrev pub padded : List ℕ → List ℕ
padded bs = bs ++ replicate (16 - length bs) 0

-- the memory with bytes from an address on
unfoldable pub stored : List ℕ → ℕ → List ℕ → List ℕ
stored m at bs = take at m ++ bs ++ drop (at + length bs) m
