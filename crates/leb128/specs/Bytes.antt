-- What a slice of u8 always is.
use Rattle.std.specs.Prelude.{ℕ, ◌<◌, List, get_or}

abbrev pub bytes : List ℕ → Type 0
bytes s = (i : ℕ) → get_or s i 0 < 256
