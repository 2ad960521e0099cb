-- The shortest form writes its integer, no bytes that write it are fewer, and no others are as few.
use Prim.Native.Nat.{ℕ, zero, suc, ◌+◌, ◌-◌, ◌*◌, ◌/◌, ◌%◌, ◌<◌, ◌≤◌, ◌^◌}
use mathlib.Core.Path.{◌≡◌, refl, ap}
use mathlib.Core.Bool.{Bool, true, false}
use mathlib.Core.List.{List, [], ◌∷◌, ◌++◌}
use native.Mathlib.Omega.{arith}
use lib.Dec.{ltb}
use lib.Pow.{pow_mono}
use lib.ListN.{length, drop}
use lib.IntN.{ℤ, pos, negsuc, ◌-ℤ◌}
use lib.Signed.{mag}
use borrow.Author.Tests.{lt-ltb, le-ltb}
use Rattle.leb128.specs.Grammar.{Written, u_last, s_low, s_high, more, ShortestForm}
use Rattle.leb128.specs.Bits.{integer}
use Rattle.leb128.specs.Number.{number_of, number_at}
use Rattle.leb128.specs.Shortest.{low, high, limit_of, shortest, bytes_of}
use Rattle.leb128.specs.Bytes.{bytes}
use Rattle.leb128.proofs.Arith.{split, either, pow-seven, half-seven, up, up_pos, up_neg, high-up, down}
use Rattle.leb128.proofs.Grammars.{some_bytes, few_bytes, are-bytes, Ranged, same_bytes}
use Rattle.leb128.proofs.Widths.{bits_back}
use Rattle.leb128.proofs.Exact.{stands-reads}

module _ (limit f : ℕ) (z : ℤ) where
  pub short-one : mag z < limit → shortest limit (suc f) z ≡ low z ∷ []
  unfolding shortest
  short-one h = rw (lt-ltb (mag z) limit h)

  pub short-more : limit ≤ mag z → shortest limit (suc f) z ≡ (128 + low z) ∷ shortest limit f (high z)
  unfolding shortest
  short-more h = rw (le-ltb (mag z) limit h)

pub short-some : (limit f : ℕ) (z : ℤ) → 0 < length (shortest limit (suc f) z)
unfolding shortest
short-some limit f z = split (λ (l : List ℕ). 0 < length l) (ltb (mag z) limit) (λ e. omega arith) (λ e. omega arith)

pub limit-least : (sign : Bool) → 64 ≤ limit_of sign
limit-least false = omega arith
limit-least true = omega arith

pub low-less : (z : ℤ) → low z < 128
low-less (pos n) = omega arith
low-less (negsuc n) = omega arith

mag_high : (z : ℤ) → mag (high z) ≡ mag z / 128
mag_high (pos n) = refl
mag_high (negsuc n) = refl

-- IT WRITES THE INTEGER
last-writes : (sign : Bool) (N : ℕ) (z : ℤ) → Ranged sign N z → mag z < limit_of sign → Written sign N (low z ∷ []) z
last-writes false N (pos n) r h =
    let e : n % 128 ≡ n = omega arith in
    rw e (u_last h r)
last-writes false N (negsuc n) r h = absurd r
last-writes true N (pos n) r h =
    let e : n % 128 ≡ n = omega arith in
    rw e (s_low h r)
last-writes true N (negsuc n) r h =
    let e : n % 128 ≡ n = omega arith in
    let d : 128 - suc (128 - suc n) ≡ n = omega arith in
    let l : 128 - suc n < 128 = omega arith in
    let q : negsuc n ≡ pos (128 - suc n) -ℤ pos (2 ^ 7) = rw (down (128 - suc n) l, d) in
    rw e (s_high {N = N} {n = 128 - suc n} (omega arith) l (omega arith) q)

up-low : (z : ℤ) → z ≡ up (128 + low z) (high z)
up-low (pos n) = rw (up_pos (128 + n % 128) (n / 128) (omega arith)) (ap pos (omega arith))
up-low (negsuc n) = rw (up_neg (128 + (128 - suc (n % 128))) (omega arith) (omega arith) (n / 128)) (ap negsuc (omega arith))

wide : (sign : Bool) (N : ℕ) (z : ℤ) → Ranged sign N z → limit_of sign ≤ mag z → 7 < N
wide false N (pos n) r h = either N 7 (λ t. omega (arith, pow_mono t)) (λ t. t)
wide false N (negsuc n) r h = absurd r
wide true N z r h = either (N - 1) 6 (λ t. omega (arith, pow_mono t, r)) (λ t. omega arith)

high-ranged : (sign : Bool) (N : ℕ) (z : ℤ) → 7 < N → Ranged sign N z → Ranged sign (N - 7) (high z)
high-ranged false N (pos n) w r = omega (arith, pow-seven N w)
high-ranged false N (negsuc n) w r = absurd r
high-ranged true N z w r = omega (arith, half-seven N w, mag_high z)

pub short-writes : (sign : Bool) (N f : ℕ) (z : ℤ) → Ranged sign N z → mag z ≤ f → Written sign N (shortest (limit_of sign) (suc f) z) z
short-writes sign N zero z r l =
    let h : mag z < limit_of sign = omega (arith, limit-least sign) in
    rw (short-one (limit_of sign) zero z h) (last-writes sign N z r h)
short-writes sign N (suc f) z r l =
    either (limit_of sign) (mag z)
    (λ h.
    let w = wide sign N z r h in
    let b = low-less z in
    let e = mag_high z in
    let k = limit-least sign in
    rw (short-more (limit_of sign) (suc f) z h)
    (more {n = 128 + low z} (omega arith) (omega arith) w (short-writes sign (N - 7) f (high z) (high-ranged sign N z w r) (omega arith)) (up-low z)))
    (λ h. rw (short-one (limit_of sign) (suc f) z h) (last-writes sign N z r h))

-- NO BYTES ARE FEWER
one-most : (limit f : ℕ) (z : ℤ) → mag z < limit → length (shortest limit f z) ≤ 1
unfolding shortest
one-most limit zero z h = omega arith
one-most limit (suc f) z h = rw (lt-ltb (mag z) limit h) (omega arith)

short_none : (limit : ℕ) (z : ℤ) → length (shortest limit zero z) ≡ 0
unfolding shortest
short_none limit z = refl

short-step : (limit f : ℕ) (z : ℤ) → length (shortest limit (suc f) z) ≤ suc (length (shortest limit f (high z)))
unfolding shortest
short-step limit f z =
    split (λ (l : List ℕ). length l ≤ suc (length (shortest limit f (high z)))) (ltb (mag z) limit) (λ e. omega arith) (λ e. omega arith)

pub short-least : {sign : Bool} {N : ℕ} {cs : List ℕ} {z : ℤ} → Written sign N cs z → (f : ℕ) → length (shortest (limit_of sign) f z) ≤ length cs
short-least (u_last {n = n} h g) f = one-most 128 f (pos n) h
short-least (s_low {n = n} h g) f = one-most 64 f (pos n) h
short-least (s_high {n = n} h g k e) f = rw (e, down n g) (one-most 64 f (negsuc (128 - suc n)) (omega arith))
short-least (more {sign = sign} {z = z} h u g w e) zero = omega (arith, short_none (limit_of sign) z)
short-least (more {sign = sign} {n = n} {m = m} {z = z} h u g w e) (suc f) =
    let d : high z ≡ m = rw e (high-up n h u m) in
    omega (arith, rw d at (short-step (limit_of sign) f z), short-least w f)

-- the form of the N bits v
module _ (sign : Bool) (N v : ℕ) (h : 0 < N) (l : v < 2 ^ N) where
  pub bytes-write : Written sign N (bytes_of sign N v) (integer sign N v)
  unfolding bytes_of
  bytes-write = short-writes sign N (mag (integer sign N v)) (integer sign N v) (bits_back N h sign v l).0 (omega arith)

  pub bytes-shortest : ShortestForm sign N (integer sign N v) (bytes_of sign N v)
  unfolding bytes_of
  bytes-shortest = record { writes = bytes-write; least = λ cs w. short-least w (suc (mag (integer sign N v))) }

  pub bytes-only : (cs : List ℕ) → ShortestForm sign N (integer sign N v) cs → cs ≡ bytes_of sign N v
  bytes-only cs s = same_bytes s.writes bytes-write (omega (arith, s.least (bytes_of sign N v) bytes-write, bytes-shortest.least cs s.writes))

  pub bytes-some : 0 < length (bytes_of sign N v)
  bytes-some = some_bytes bytes-write

  pub bytes-few : 7 * length (bytes_of sign N v) < N + 7
  bytes-few = few_bytes bytes-write h

  pub bytes-bytes : bytes (bytes_of sign N v)
  bytes-bytes = are-bytes bytes-write

  -- THE ROUND TRIP: where the form stands, at any place and before anything, reading finds v
  pub reads-back : (s : List ℕ) (at : ℕ) (rest : List ℕ) → drop at s ≡ bytes_of sign N v ++ rest → number_at sign N s at ≡ number_of v (length (bytes_of sign N v))
  reads-back s at rest e =
      stands-reads sign N s at h v (length (bytes_of sign N v)) l
      (record { bytes = bytes_of sign N v; rest = rest; here = e; long = refl; writes = bytes-write })
