-- What 02 (C-14, C-15) asks of an image, byte by byte: beside Image, which lays its parts one after the other (Asking.shows-exact).
use Rattle.std.specs.Prelude.{ℕ, zero, suc, ◌+◌, ◌*◌, ◌^◌, ◌≤◌, ◌<◌, ◌≡◌, List, [], ◌∷◌, length, get_or}
use Rattle.limits.specs.Limits.{slot, local_count, stack_limit}
use Rattle.opcode.specs.Kind.{Kind, bytes_used}
use Rattle.image.specs.Image.{image_version}

-- sixteen bits from a place on, the lower byte first
abbrev pub sixteen_bits : ℕ → List ℕ → ℕ
sixteen_bits at b = get_or b at 0 + 2 ^ 8 * get_or b (at + 1) 0

-- the place: 32 bits from 5 on
abbrev pub place_at : List ℕ → ℕ
place_at b = sixteen_bits 5 b + 2 ^ 16 * sixteen_bits 7 b

-- how many bytes the k-th of some slots uses: as its kind does; none where it holds no value
abbrev pub used_at : List Kind → ℕ → ℕ
used_at [] k = 0
used_at (κ ∷ κs) zero = bytes_used κ
used_at (κ ∷ κs) (suc k) = used_at κs k

-- of so many slots from a place on, every byte that is not used is zero
abbrev pub UnusedZero : List Kind → ℕ → ℕ → List ℕ → Type 0
UnusedZero κs at count b = (k j : ℕ) → k < count → used_at κs k ≤ j → j < slot → get_or b (at + (slot * k + j)) 0 ≡ 0

-- of locals and of a stack of these kinds: "WGS", the version, as many values as the stack has, and zeros
pub record Asked (locals stack : List Kind) (b : List ℕ) : Type 0 where
  pub room : 11 + slot * local_count + slot * stack_limit ≤ length b
  pub mark : (get_or b 0 0 ≡ 0x57) × (get_or b 1 0 ≡ 0x47) × (get_or b 2 0 ≡ 0x53)
  pub version : sixteen_bits 3 b ≡ image_version
  pub depth : sixteen_bits 9 b ≡ length stack
  pub locals_zero : UnusedZero locals 11 local_count b
  pub stack_zero : UnusedZero stack (11 + slot * local_count) stack_limit b
