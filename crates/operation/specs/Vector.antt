-- A value of kind v128 (01, "Values and shapes"): sixteen bytes, byte 0 first. As one number its lowest bits are byte 0,
-- and lane n of width w is bits w·n to w·n+w-1 of that number.
use Rattle.std.specs.Prelude.{ℕ, zero, suc, ◌+◌, ◌*◌, ◌/◌, ◌%◌, ◌^◌, List, [], ◌∷◌, ◌++◌, ◌≡◌, length, get_or}
use Rattle.std.specs.Int.{Width, w8}
use mir.Val.{bits, bytes, Fits}
use Rattle.operation.specs.Shape.{lanes}

-- the number that bytes are, the lowest first
abbrev pub number : List ℕ → ℕ
number [] = 0
number (b ∷ bs) = b + 2 ^ 8 * number bs

-- the k bytes of a number, the lowest first
abbrev pub le : ℕ → ℕ → List ℕ
le zero x = []
le (suc k) x = x % 2 ^ 8 ∷ le k (x / 2 ^ 8)

unfoldable pub lane : Width → List ℕ → ℕ → ℕ
lane w v n = number v / 2 ^ (bits w * n) % 2 ^ bits w

-- n lanes of k bytes, lane 0 first
unfoldable pub build : ℕ → ℕ → (ℕ → ℕ) → List ℕ
build k zero g = []
build k (suc n) g = build k n g ++ le k (g n)

-- the vector whose lane n is g n
abbrev pub vec : Width → (ℕ → ℕ) → List ℕ
vec w g = build (bytes w) (lanes w) g

-- lane by lane (000, "Operations")
abbrev pub lanewise1 : Width → (ℕ → ℕ) → List ℕ → List ℕ
lanewise1 w f a = vec w (λ n. f (lane w a n))

abbrev pub lanewise2 : Width → (ℕ → ℕ → ℕ) → List ℕ → List ℕ → List ℕ
lanewise2 w f a b = vec w (λ n. f (lane w a n) (lane w b n))

-- sixteen bytes: what the field of a V128 always is
pub record Sixteen (v : List ℕ) : Type 0 where
  pub long : length v ≡ 16
  pub bytes : (k : ℕ) → Fits w8 (get_or v k 0)
