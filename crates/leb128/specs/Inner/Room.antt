-- Inner: the bits that are open by the largest number that they hold, room = 2^N - 1, as the loops have them.
use Rattle.std.specs.Prelude.{ℕ, ◌-◌, ◌/◌, Bool, true, false, cond, ltb, leb, ℤ, pos, negsuc}

-- a last byte stays within the bits that are left
abbrev pub allowed_in : Bool → ℕ → ℕ → Bool
allowed_in false room b = leb b room
allowed_in true room b = cond (ltb b 64) (leb b (room / 2)) (leb (127 - b) (room / 2))

-- it, as those bits
abbrev pub extended_to : Bool → ℕ → ℕ → ℕ
extended_to false room b = b
extended_to true room b = cond (ltb b 64) b (room - (127 - b))

-- n, or -n - 1
abbrev pub int : Bool → ℕ → ℤ
int false n = pos n
int true n = negsuc n
