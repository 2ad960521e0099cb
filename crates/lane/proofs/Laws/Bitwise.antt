-- Bitwise operations of 128-bit numbers, byte by byte.
use mathlib.Core.Path.{◌≡◌, sym, ap, ap₂, ◌∙◌, subst}
use Prim.Native.Nat.{ℕ, ◌+◌, ◌*◌, ◌-◌, ◌/◌, ◌%◌, ◌^◌, ◌≤◌, ◌<◌}
use native.Mathlib.Nat.{add-mul, mod-lt, mod-eq_of_lt}
use native.Mathlib.Omega.{arith}
use lib.Arith.{digits_div, digits_mod}
use lib.Bits.{bit_and, bit_or, bit_xor, and_shr, or_shr, xor_shr, and_mod, or_mod, xor_mod, and_lt}
use lib.Pow.{pow_pos, split, ones_split, shr_lt, ones_sub-lt}
use mathlib.Core.List.{List}
use mir.Syntax.{w8}
use Rattle.operation.specs.Vector.{number, le, vec, lane, lanewise1, lanewise2, Sixteen}
use Rattle.operation.proofs.Laws.Number.{field_of, number-le, number_lt}
use Rattle.operation.proofs.Laws.Build.{build-same, build-fields}

-- turning over the bits of a, above and below bit k
complement : (j k a : ℕ) → a < 2 ^ (j + k) → 2 ^ (j + k) - 1 - a ≡ (2 ^ j - 1 - a / 2 ^ k) * 2 ^ k + (2 ^ k - 1 - a % 2 ^ k)
complement j k a h =
    omega (arith, ones_split j k, split a k, parts, top, mod-lt a (pow_pos k), pow_pos k)
  where
    top : a / 2 ^ k < 2 ^ j
    top = shr_lt j k h

    parts : (2 ^ j - 1) * 2 ^ k ≡ (2 ^ j - 1 - a / 2 ^ k) * 2 ^ k + a / 2 ^ k * 2 ^ k
    parts = ap (λ (n : ℕ). n * 2 ^ k) (under (2 ^ j - 1) (a / 2 ^ k) (omega (arith, top))) ∙ add-mul (2 ^ j - 1 - a / 2 ^ k) (a / 2 ^ k) (2 ^ k)
      where
        under : (p q : ℕ) → q ≤ p → p ≡ p - q + q
        under p q l = omega arith

low : (k : ℕ) (a : ℕ) → 2 ^ k - 1 - a % 2 ^ k < 2 ^ k
low k a = omega (arith, pow_pos k)

not-shr : (j k a : ℕ) → a < 2 ^ (j + k) → (2 ^ (j + k) - 1 - a) / 2 ^ k ≡ 2 ^ j - 1 - a / 2 ^ k
not-shr j k a h = ap (λ (n : ℕ). n / 2 ^ k) (complement j k a h) ∙ digits_div (2 ^ j - 1 - a / 2 ^ k) (low k a)

not_mod : (j k a : ℕ) → a < 2 ^ (j + k) → (2 ^ (j + k) - 1 - a) % 2 ^ k ≡ 2 ^ k - 1 - a % 2 ^ k
not_mod j k a h = ap (λ (n : ℕ). n % 2 ^ k) (complement j k a h) ∙ digits_mod (2 ^ j - 1 - a / 2 ^ k) (low k a)

-- field n of the bits turned over
not-field : (k n t a : ℕ) → k * n + k ≤ t → a < 2 ^ t → field_of k (2 ^ t - 1 - a) n ≡ 2 ^ k - 1 - field_of k a n
not-field k n t a l h =
    ap (λ (m : ℕ). m % 2 ^ k)
    (subst (λ (m : ℕ). (2 ^ m - 1 - a) / 2 ^ (k * n) ≡ 2 ^ (t - k * n) - 1 - a / 2 ^ (k * n)) down
    (not-shr (t - k * n) (k * n) a (subst (λ (m : ℕ). a < 2 ^ m) (sym down) h)))
    ∙ subst (λ (m : ℕ). (2 ^ m - 1 - a / 2 ^ (k * n)) % 2 ^ k ≡ 2 ^ k - 1 - a / 2 ^ (k * n) % 2 ^ k) deeper
    (not_mod (t - k * n - k) k (a / 2 ^ (k * n)) (shr_lt (t - k * n - k + k) (k * n) (subst (λ (m : ℕ). a < 2 ^ m) (sym whole) h)))
  where
    down : t - k * n + k * n ≡ t
    down = omega arith

    deeper : t - k * n - k + k ≡ t - k * n
    deeper = omega arith

    whole : t - k * n - k + k + k * n ≡ t
    whole = omega arith

pub below : (v : List ℕ) → Sixteen v → number v < 2 ^ 128
below v s = subst (λ (n : ℕ). number v < 2 ^ (8 * n)) s.long (number_lt v s.bytes)

-- what is done byte by byte is done to all 128 bits
bytewise : (z : ℕ) (g : ℕ → ℕ) → ((n : ℕ) → n < 16 → g n ≡ field_of 8 z n) → vec w8 g ≡ le 16 z
bytewise z g e = build-same 1 16 g (field_of 8 z) e ∙ build-fields 1 16 z

module _ (a b : List ℕ) (sa : Sixteen a) (sb : Sixteen b) where
  pub and-bytes : lanewise2 w8 bit_and a b ≡ le 16 (bit_and (number a) (number b))
  unfolding lane
  and-bytes = bytewise _ _ (λ n l. sym (ap (λ (m : ℕ). m % 2 ^ 8) (and_shr (number a) (number b) (8 * n)) ∙ and_mod (number a / 2 ^ (8 * n)) (number b / 2 ^ (8 * n)) 8))

  pub andnot-bytes : lanewise2 w8 (λ x y. bit_and x (2 ^ 8 - 1 - y)) a b ≡ le 16 (bit_and (number a) (2 ^ 128 - 1 - number b))
  unfolding lane
  andnot-bytes =
      bytewise _ _
      (λ n l. ap (bit_and (field_of 8 (number a) n)) (sym (not-field 8 n 128 (number b) (omega arith) (below b sb)))
      ∙ sym (ap (λ (m : ℕ). m % 2 ^ 8) (and_shr (number a) (2 ^ 128 - 1 - number b) (8 * n)) ∙ and_mod (number a / 2 ^ (8 * n)) ((2 ^ 128 - 1 - number b) / 2 ^ (8 * n)) 8))

  pub or-bytes : lanewise2 w8 bit_or a b ≡ le 16 (bit_or (number a) (number b))
  unfolding lane
  or-bytes = bytewise _ _ (λ n l. sym (ap (λ (m : ℕ). m % 2 ^ 8) (or_shr (number a) (number b) (8 * n)) ∙ or_mod (number a / 2 ^ (8 * n)) (number b / 2 ^ (8 * n)) 8))

  pub xor-bytes : lanewise2 w8 bit_xor a b ≡ le 16 (bit_xor (number a) (number b))
  unfolding lane
  xor-bytes = bytewise _ _ (λ n l. sym (ap (λ (m : ℕ). m % 2 ^ 8) (xor_shr (number a) (number b) (8 * n)) ∙ xor_mod (number a / 2 ^ (8 * n)) (number b / 2 ^ (8 * n)) 8))

pub not-bytes : (a : List ℕ) → Sixteen a → lanewise1 w8 (λ x. 2 ^ 8 - 1 - x) a ≡ le 16 (2 ^ 128 - 1 - number a)
unfolding lane
not-bytes a s = bytewise _ _ (λ n l. sym (not-field 8 n 128 (number a) (omega arith) (below a s)))

-- a choice of bits by two steps
pub select : (a b c : ℕ) → a < 2 ^ 128 → b < 2 ^ 128 → c < 2 ^ 128
    → bit_or (number (le 16 (bit_and a c))) (number (le 16 (bit_and b (2 ^ 128 - 1 - c)))) ≡ bit_or (bit_and a c) (bit_and b (2 ^ 128 - 1 - c))
select a b c ha hb hc =
    ap₂ bit_or (number-le 16 (bit_and a c) ∙ mod-eq_of_lt (and_lt 128 a c ha hc))
    (number-le 16 (bit_and b (2 ^ 128 - 1 - c)) ∙ mod-eq_of_lt (and_lt 128 b (2 ^ 128 - 1 - c) hb (ones_sub-lt 128 c)))
