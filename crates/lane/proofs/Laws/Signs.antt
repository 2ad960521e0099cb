-- The signs of all lanes: by words, and those of a word by one product.
use mathlib.Core.Path.{◌≡◌, refl, sym, ap, ap₂, ◌∙◌}
use mathlib.Core.Bool.{Bool, true}
use mathlib.Core.List.{List}
use Prim.Native.Nat.{ℕ, zero, suc, ◌+◌, ◌*◌, ◌/◌, ◌%◌, ◌^◌, ◌≤◌, ◌<◌, suc-le-suc}
use native.Mathlib.Nat.{add-zero, mul_comm, mul-le-mul, mod-lt, mod-eq_of_lt, div-lt_iff_lt-mul}
use native.Mathlib.Omega.{arith}
use lib.Bits.{bit_and, and_zero_r, and_block, and_mask}
use lib.Dec.{eqb}
use lib.IntN.{pos}
use lib.Signed.{lt_z}
use lib.Pow.{pow_pos, pow_mono, split, high, low}
use borrow.Author.Tests.{eqb-true}
use mir.Syntax.{Width, w8, w16, w32, w64, w128}
use mir.Val.{bits, hbits, to_z}
use mir.ValLaws.{pow-bits}
use Rattle.operation.specs.Shape.{lanes}
use Rattle.operation.specs.Vector.{lane}
use Rattle.operation.specs.Op.{Bitmask, truth, all, tally, test}
use Rattle.operation.proofs.Laws.Number.{field_of}
use Rattle.operation.proofs.Laws.Scan.{all-each, sign_bit, truth-le, tally-lt, tally-same, tally-parts, tally-low}
use Rattle.lane.specs.Inner.Words.{fieldwise, signs}
use Rattle.lane.proofs.Laws.Build.{as-many}
use Rattle.lane.proofs.Laws.Words.{fieldwise-same, field_next, field-first, masked-here, word_lane}

-- ---- a vector's signs are those of its two words

-- of lane n of a word
abbrev sign_at : Width → ℕ → ℕ → Bool
sign_at w x n = lt_z (to_z w (field_of (bits w) x n)) (pos 0)

-- over every width of which two words hold all lanes
by-words : (w : Width) (v : List ℕ) → 64 / bits w + 64 / bits w ≡ lanes w
    → test (Bitmask w) v ≡ signs w (lane w64 v 0) + 2 ^ (64 / bits w) * signs w (lane w64 v 1)
unfolding signs
by-words w v e =
    ap (λ (j : ℕ). tally j P) (sym e) ∙ tally-parts k k P
    ∙ ap₂ (λ (a b : ℕ). a + 2 ^ k * b)
    (tally-same k P (sign_at w (lane w64 v 0)) (λ n l. ap sign (at 0 n l (omega arith))))
    (tally-same k (λ n. P (k + n)) (sign_at w (lane w64 v 1)) (λ n l. ap sign (at 1 n l (omega arith))))
  where
    k : ℕ
    k = 64 / bits w

    sign : ℕ → Bool
    sign x = lt_z (to_z w x) (pos 0)

    P : ℕ → Bool
    P n = sign (lane w v n)

    at : (c n : ℕ) {i : ℕ} → n < k → i ≡ k * c + n → lane w v i ≡ field_of (bits w) (lane w64 v c) n
    at c n l p = ap (lane w v) p ∙ sym (word_lane w v c n l)

pub signs-lt : (w : Width) (x : ℕ) → signs w x < 2 ^ (64 / bits w)
unfolding signs
signs-lt w x = tally-lt (64 / bits w) (sign_at w x)

few : (w : Width) → 64 / bits w ≤ 8
few w8 = omega arith
few w16 = omega arith
few w32 = omega arith
few w64 = omega arith
few w128 = omega arith

-- as a function has them: s and s', the signs of the words x and x', s' shifted past those of x
pub sign-words : (w : Width) (m : ℕ) (v : List ℕ) {s s' x x' l : ℕ} → m * bits w ≡ 128 → 64 / bits w + 64 / bits w ≡ lanes w → l ≡ m
    → s ≡ signs w x → x ≡ lane w64 v 0 → s' ≡ signs w x' → x' ≡ lane w64 v 1 → s + s' * 2 ^ (l / 2) % 2 ^ 32 ≡ test (Bitmask w) v
sign-words w m v {s} {s'} {x} {x'} {l} e h f p q p' q' =
    ap₂ ◌+◌ (p ∙ ap (signs w) q) (ap (λ (j : ℕ). s' * 2 ^ j % 2 ^ 32) half ∙ mod-eq_of_lt small ∙ mul_comm s' (2 ^ k) ∙ ap (λ (y : ℕ). 2 ^ k * y) (p' ∙ ap (signs w) q'))
    ∙ sym (by-words w v h)
  where
    k : ℕ
    k = 64 / bits w

    half : l / 2 ≡ k
    half = omega (arith, as-many w m e)

    least : 2 ^ k ≤ 2 ^ 8
    least = pow_mono (few w)

    below : s' ≤ 2 ^ 8
    below = omega (arith, signs-lt w x', least)

    small : s' * 2 ^ k < 2 ^ 32
    small = omega (arith, mul-le-mul below least)

-- ---- a word's signs by one product

-- the n bits of t, each at the top of a lane
abbrev scattered : Width → ℕ → ℕ → ℕ
scattered w zero t = 0
scattered w (suc n) t = scattered w n (t / 2 ^ 1) * 2 ^ bits w + t % 2 ^ 1 * 2 ^ hbits w

-- the top bit alone
and-top : (w : Width) (r : ℕ) → r < 2 ^ bits w → bit_and r (2 ^ hbits w) ≡ r / 2 ^ hbits w * 2 ^ hbits w
and-top w r l =
    ap₂ bit_and (sym (split r (hbits w))) one
    ∙ and_block (hbits w) (r / 2 ^ hbits w) 1 (r % 2 ^ hbits w) 0 (mod-lt r (pow_pos (hbits w))) (pow_pos (hbits w))
    ∙ ap₂ (λ (a b : ℕ). a * 2 ^ hbits w + b) (and_mask (r / 2 ^ hbits w) 1 ∙ mod-eq_of_lt top) (and_zero_r (r % 2 ^ hbits w))
    ∙ add-zero (r / 2 ^ hbits w * 2 ^ hbits w)
  where
    one : 2 ^ hbits w ≡ 1 * 2 ^ hbits w + 0
    one = omega arith

    top : r / 2 ^ hbits w < 2 ^ 1
    top = (div-lt_iff_lt-mul (pow_pos (hbits w))).1 (omega (arith, pow-bits w))

-- the signs, each at the top of its lane
scattering : (w : Width) (n x : ℕ) → fieldwise (bits w) n (λ r. r / 2 ^ hbits w * 2 ^ hbits w) x ≡ scattered w n (tally n (sign_at w x))
unfolding fieldwise
scattering w zero x = refl
scattering w (suc n) x =
    ap₂ (λ (a b : ℕ). a * 2 ^ bits w + b * 2 ^ hbits w) (scattering w n (x / 2 ^ bits w) ∙ ap (scattered w n) (above ∙ sym up)) (lowest ∙ sym down)
  where
    sign : ℕ → Bool
    sign y = lt_z (to_z w y) (pos 0)

    rest : ℕ
    rest = tally n (λ k. sign_at w x (suc k))

    above : tally n (sign_at w (x / 2 ^ bits w)) ≡ rest
    above = tally-same n (sign_at w (x / 2 ^ bits w)) (λ k. sign_at w x (suc k)) (λ k l. ap sign (field_next (bits w) x k))

    lowest : x % 2 ^ bits w / 2 ^ hbits w ≡ truth (sign_at w x 0)
    lowest = sign_bit w (x % 2 ^ bits w) (mod-lt x (pow_pos (bits w))) ∙ ap truth (ap sign (sym (field-first (bits w) x)))

    bit : truth (sign_at w x 0) < 2 ^ 1
    bit = suc-le-suc (truth-le (sign_at w x 0))

    up : tally (suc n) (sign_at w x) / 2 ^ 1 ≡ rest
    up = ap (λ (y : ℕ). y / 2 ^ 1) (tally-low n (sign_at w x)) ∙ high rest 1 bit

    down : tally (suc n) (sign_at w x) % 2 ^ 1 ≡ truth (sign_at w x 0)
    down = ap (λ (y : ℕ). y % 2 ^ 1) (tally-low n (sign_at w x)) ∙ low rest 1 bit

-- what a mask of the lanes' top bits leaves
tops : (w : Width) (n x z : ℕ) → bit_and x (fieldwise (bits w) n (λ r. 2 ^ hbits w) z) ≡ scattered w n (tally n (sign_at w x))
tops w n x z =
    masked-here (bits w) n (2 ^ hbits w) x z (omega (arith, pow-bits w, pow_pos (hbits w)))
    ∙ fieldwise-same (bits w) n (λ r. bit_and r (2 ^ hbits w)) (λ r. r / 2 ^ hbits w * 2 ^ hbits w) x (and-top w)
    ∙ scattering w n x

-- a product that brings the n bits of every t together brings together the signs of every word
pub gathered : (w : Width) (n spread rest : ℕ) → all (2 ^ n) (λ t. eqb (scattered w n t * spread % 2 ^ 64 / 2 ^ rest) t) ≡ true
    → (x z : ℕ) → bit_and x (fieldwise (bits w) n (λ r. 2 ^ hbits w) z) * spread % 2 ^ 64 / 2 ^ rest ≡ tally n (sign_at w x)
gathered w n spread rest e x z =
    ap (λ (y : ℕ). y * spread % 2 ^ 64 / 2 ^ rest) (tops w n x z)
    ∙ eqb-true (scattered w n t * spread % 2 ^ 64 / 2 ^ rest) t (all-each (2 ^ n) t back e (tally-lt n (sign_at w x)))
  where
    t : ℕ
    t = tally n (sign_at w x)

    back : ℕ → Bool
    back i = eqb (scattered w n i * spread % 2 ^ 64 / 2 ^ rest) i
