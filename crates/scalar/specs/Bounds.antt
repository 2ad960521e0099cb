-- What a lane of width w holds (01, "Values and shapes"; 000, "Modulo integer interpretations").
use Rattle.std.specs.Prelude.{ℕ, ◌-◌, ◌^◌, ℤ, pos, negsuc}
use Rattle.std.specs.Int.{Width}
use mir.Val.{bits}

-- -2^(w-1), 2^(w-1) - 1 and 2^w - 1
abbrev pub least : Width → ℤ
least w = negsuc (2 ^ (bits w - 1) - 1)

abbrev pub largest : Width → ℤ
largest w = pos (2 ^ (bits w - 1) - 1)

abbrev pub all_ones : Width → ℕ
all_ones w = 2 ^ bits w - 1
