-- Inner: the lanes of one word of 64 bits.
use Rattle.std.specs.Prelude.{ℕ, zero, suc, ◌+◌, ◌*◌, ◌/◌, ◌%◌, ◌^◌, pos}
use Rattle.std.specs.Int.Signed.{lt_z}
use Rattle.std.specs.Int.{Width}
use mir.Val.{bits}
use Rattle.scalar.specs.Scalar.{S, value}
use Rattle.operation.specs.Op.{tally}

-- the m lowest fields of k bits of x, each as f makes it; f makes numbers that fit a field
unfoldable pub fieldwise : ℕ → ℕ → (ℕ → ℕ) → ℕ → ℕ
fieldwise k zero f x = 0
fieldwise k (suc m) f x = fieldwise k m f (x / 2 ^ k) * 2 ^ k + f (x % 2 ^ k)

-- bit n is the sign of lane n
unfoldable pub signs : Width → ℕ → ℕ
signs w x = tally (64 / bits w) (λ n. lt_z (value S w (x / 2 ^ (bits w * n) % 2 ^ bits w)) (pos 0))
