-- Powers of two, a test's two ways, and a byte put before an integer.
use Prim.Native.Nat.{ℕ, zero, suc, ◌+◌, ◌-◌, ◌*◌, ◌<◌, ◌≤◌, ◌^◌}
use mathlib.Core.Path.{◌≡◌, refl, ap}
use mathlib.Core.Bool.{Bool, true, false, cond}
use native.Mathlib.Nat.{two-pow-succ, not-suc-le-zero}
use native.Mathlib.Omega.{arith}
use lib.Dec.{leb}
use lib.Pow.{pow-add}
use lib.IntN.{ℤ, pos, negsuc, ◌+ℤ◌, ◌-ℤ◌, ◌*ℤ◌}
use borrow.Author.Tests.{leb-true, leb-false, lt-ltb, le-ltb}
use Rattle.leb128.specs.Shortest.{low, high}

pub split : {A : Type 0} (P : A → Type 0) (t : Bool) {x y : A} → (t ≡ true → P x) → (t ≡ false → P y) → P (cond t x y)
split P true f g = f refl
split P false f g = g refl

pub either : (a b : ℕ) {X : Type 0} → (a ≤ b → X) → (b < a → X) → X
either a b {X} f g = split {A = ℕ} (λ (_ : ℕ). X) (leb a b) {x = 0} {y = 0} (λ e. f (leb-true a b e)) (λ e. g (leb-false a b e))

pub pow-half : (n : ℕ) → 0 < n → 2 ^ n ≡ 2 ^ (n - 1) + 2 ^ (n - 1)
pow-half zero h = absurd (not-suc-le-zero h)
pow-half (suc n) h =
    let e : suc n - 1 ≡ n = omega arith in
    rw e (two-pow-succ n)

pub pow-seven : (N : ℕ) → 7 < N → 2 ^ N ≡ 128 * 2 ^ (N - 7)
pow-seven N h =
    let e : 7 + (N - 7) ≡ N = omega arith in
    rw e at (pow-add 2 7 (N - 7))

pub half-seven : (N : ℕ) → 7 < N → 2 ^ (N - 1) ≡ 128 * 2 ^ (N - 7 - 1)
half-seven N h =
    let e : 7 + (N - 7 - 1) ≡ N - 1 = omega arith in
    rw e at (pow-add 2 7 (N - 7 - 1))

-- the byte b ≥ 2^7 before the integer m
abbrev pub up : ℕ → ℤ → ℤ
up b m = pos (2 ^ 7) *ℤ m +ℤ (pos b -ℤ pos (2 ^ 7))

pub up_pos : (b v : ℕ) → 128 ≤ b → up b (pos v) ≡ pos (128 * v + (b - 128))
up_pos b v l = rw (le-ltb b 128 l)

module _ (b : ℕ) (l : 128 ≤ b) (u : b < 256) where
  pub up_neg : (v : ℕ) → up b (negsuc v) ≡ negsuc (128 * v + (255 - b))
  up_neg v =
      let e : 128 * suc v ≡ suc (128 * v + 127) = omega arith in
      simp (e, le-ltb b 128 l, lt-ltb (b - 128) (suc (128 * v + 127)) (omega arith)) (ap negsuc (omega arith))

  pub high-up : (m : ℤ) → high (up b m) ≡ m
  high-up (pos v) = rw (up_pos b v l) (ap pos (omega arith))
  high-up (negsuc v) = rw (up_neg v) (ap negsuc (omega arith))

  pub low_up : (m : ℤ) → 128 + low (up b m) ≡ b
  low_up (pos v) = rw (up_pos b v l) (omega arith)
  low_up (negsuc v) = rw (up_neg v) (omega arith)

-- a byte of 2^6 to 2^7 - 1 that is the last of a signed number
pub down : (n : ℕ) → n < 128 → pos n -ℤ pos (2 ^ 7) ≡ negsuc (128 - suc n)
down n l = rw (lt-ltb n 128 l)
