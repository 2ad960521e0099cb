-- Bytes and the number that they are: appending, splitting, and the fields of k bits that lanes are.
use mathlib.Core.Path.{◌≡◌, refl, sym, ap, ap₂, ◌∙◌, subst}
use mathlib.Core.List.{List, [], ◌∷◌, ◌++◌}
use Prim.Native.Nat.{ℕ, zero, suc, ◌+◌, ◌*◌, ◌-◌, ◌/◌, ◌%◌, ◌^◌, ◌≤◌, ◌<◌}
use native.Mathlib.Nat.{zero-add, suc-add, add_comm, mul_comm, mul_assoc, mul-add, add-mul, mul-suc, mul-one}
use native.Mathlib.Nat.{two-mul, pow-zero, div-one, mod-one, mod-lt, zero-lt-suc, add-mul-mod_self_right, div-add-mod'}
use native.Mathlib.Omega.{arith}
use lib.Arith.{digits_div, digits_mod}
use lib.ListN.{replicate, length, take, drop, set, get_or}
use lib.Pow.{pow_pos, pow-add, shr-shr, mod-pow-add}
use mir.Syntax.{w8}
use mir.Val.{Fits}
use Rattle.operation.specs.Vector.{number, le}

-- every element is a byte
abbrev pub Bytes : List ℕ → Type 0
Bytes v = (k : ℕ) → Fits w8 (get_or v k 0)

pub head_byte : (b : ℕ) (bs : List ℕ) → Bytes (b ∷ bs) → b < 2 ^ 8
head_byte b bs h = (h 0).fits

pub tail-bytes : (b : ℕ) (bs : List ℕ) → Bytes (b ∷ bs) → Bytes bs
tail-bytes b bs h k = h (suc k)

-- eight more bits
pow-byte : (k : ℕ) → 2 ^ (8 * suc k) ≡ 2 ^ (8 * k) * 2 ^ 8
pow-byte k = ap (λ (m : ℕ). 2 ^ m) (mul-suc 8 k) ∙ pow-add 2 (8 * k) 8

pub length-le : (k x : ℕ) → length (le k x) ≡ k
length-le zero x = refl
length-le (suc k) x = ap suc (length-le k (x / 2 ^ 8))

pub number_append : (xs ys : List ℕ) → number (xs ++ ys) ≡ number ys * 2 ^ (8 * length xs) + number xs
number_append [] ys = omega (arith, ap (λ (m : ℕ). number ys * m) (pow-zero 2))
number_append (x ∷ xs) ys =
    ap (λ (n : ℕ). x + 2 ^ 8 * n) (number_append xs ys)
    ∙ omega (arith, ap (λ (n : ℕ). number ys * n) (pow-byte (length xs)), mul_assoc (number ys) (2 ^ (8 * length xs)) (2 ^ 8))

pub number_lt : (v : List ℕ) → Bytes v → number v < 2 ^ (8 * length v)
number_lt [] h = zero-lt-suc 0
number_lt (b ∷ v) h = omega (arith, pow-byte (length v), head_byte b v h, number_lt v (tail-bytes b v h))

-- a number's low bytes are it modulo their power
pub number-le : (k x : ℕ) → number (le k x) ≡ x % 2 ^ (8 * k)
number-le zero x = sym (mod-one x)
number-le (suc k) x =
    ap (λ (n : ℕ). x % 2 ^ 8 + 2 ^ 8 * n) (number-le k (x / 2 ^ 8))
    ∙ omega (arith, ap (λ (m : ℕ). x % 2 ^ m) (mul-suc 8 k) ∙ mod-pow-add x (8 * k) 8)

-- and bytes are those of their number
pub le-number : (v : List ℕ) → Bytes v → le (length v) (number v) ≡ v
le-number [] h = refl
le-number (b ∷ v) h =
    ap₂ (λ (x : ℕ) (l : List ℕ). x ∷ l) (ap (λ (n : ℕ). n % 2 ^ 8) turn ∙ digits_mod (number v) (head_byte b v h))
    (ap (le (length v)) (ap (λ (n : ℕ). n / 2 ^ 8) turn ∙ digits_div (number v) (head_byte b v h)) ∙ le-number v (tail-bytes b v h))
  where
    turn : b + 2 ^ 8 * number v ≡ number v * 2 ^ 8 + b
    turn = omega arith

-- the low k bytes, and the rest
pub le_split : (k j x : ℕ) → le (k + j) x ≡ le k x ++ le j (x / 2 ^ (8 * k))
le_split zero j x = ap₂ le (zero-add j) (sym (div-one x))
le_split (suc k) j x =
    ap (λ (n : ℕ). le n x) (suc-add k j)
    ∙ ap (λ (l : List ℕ). x % 2 ^ 8 ∷ l) (le_split k j (x / 2 ^ 8) ∙ ap (λ (y : ℕ). le k (x / 2 ^ 8) ++ le j y) deeper)
  where
    deeper : x / 2 ^ 8 / 2 ^ (8 * k) ≡ x / 2 ^ (8 * suc k)
    deeper = shr-shr x 8 (8 * k) ∙ ap (λ (m : ℕ). x / 2 ^ m) (add_comm 8 (8 * k) ∙ sym (mul-suc 8 k))

-- bits above the k bytes do not matter
pub bytes_le : (k x : ℕ) → Bytes (le k x)
bytes_le zero x i = record { fits = zero-lt-suc 255 }
bytes_le (suc k) x zero = record { fits = mod-lt x (zero-lt-suc 255) }
bytes_le (suc k) x (suc i) = bytes_le k (x / 2 ^ 8) i

pub le-mod : (k x : ℕ) → le k (x % 2 ^ (8 * k)) ≡ le k x
le-mod k x = ap (le k) (sym (number-le k x)) ∙ subst (λ (m : ℕ). le m (number (le k x)) ≡ le k x) (length-le k x) (le-number (le k x) (bytes_le k x))

-- ---- bytes of parts

pub bytes-zeros : (n : ℕ) → Bytes (replicate n 0)
bytes-zeros zero k = record { fits = zero-lt-suc 255 }
bytes-zeros (suc n) zero = record { fits = zero-lt-suc 255 }
bytes-zeros (suc n) (suc k) = bytes-zeros n k

pub bytes-append : (xs ys : List ℕ) → Bytes xs → Bytes ys → Bytes (xs ++ ys)
bytes-append [] ys h g k = g k
bytes-append (x ∷ xs) ys h g zero = h 0
bytes-append (x ∷ xs) ys h g (suc k) = bytes-append xs ys (tail-bytes x xs h) g k

pub bytes_take : (n : ℕ) (v : List ℕ) → Bytes v → Bytes (take n v)
bytes_take zero v h k = record { fits = zero-lt-suc 255 }
bytes_take (suc n) [] h k = h k
bytes_take (suc n) (b ∷ v) h zero = h 0
bytes_take (suc n) (b ∷ v) h (suc k) = bytes_take n v (tail-bytes b v h) k

pub bytes_drop : (n : ℕ) (v : List ℕ) → Bytes v → Bytes (drop n v)
bytes_drop zero v h = h
bytes_drop (suc n) [] h = h
bytes_drop (suc n) (b ∷ v) h = bytes_drop n v (tail-bytes b v h)

pub bytes-set : (v : List ℕ) (i x : ℕ) → x < 2 ^ 8 → Bytes v → Bytes (set v i x)
bytes-set [] i x f h k = h k
bytes-set (b ∷ v) zero x f h zero = record { fits = f }
bytes-set (b ∷ v) zero x f h (suc k) = h (suc k)
bytes-set (b ∷ v) (suc i) x f h zero = h 0
bytes-set (b ∷ v) (suc i) x f h (suc k) = bytes-set v i x f (λ j. h (suc j)) k

-- ---- field n of k bits

abbrev pub field_of : ℕ → ℕ → ℕ → ℕ
field_of k x n = x / 2 ^ (k * n) % 2 ^ k

-- of two numbers, one above the other from bit j on
pub field-low : (k n j hi lo : ℕ) → k * n + k ≤ j → field_of k (hi * 2 ^ j + lo) n ≡ field_of k lo n
field-low k n j hi lo h =
    ap (λ (m : ℕ). m % 2 ^ k) (ap (λ (m : ℕ). m / 2 ^ (k * n)) apart ∙ digits_div (lo / 2 ^ (k * n) + up * 2 ^ k) (mod-lt lo (pow_pos (k * n))))
    ∙ add-mul-mod_self_right (lo / 2 ^ (k * n)) up (2 ^ k)
  where
    up : ℕ
    up = hi * 2 ^ (j - (k * n + k))

    power : 2 ^ j ≡ 2 ^ (j - (k * n + k)) * 2 ^ k * 2 ^ (k * n)
    power =
        ap (λ (m : ℕ). 2 ^ m) (omega arith) ∙ pow-add 2 (j - (k * n + k) + k) (k * n)
        ∙ ap (λ (m : ℕ). m * 2 ^ (k * n)) (pow-add 2 (j - (k * n + k)) k)

    apart : hi * 2 ^ j + lo ≡ (lo / 2 ^ (k * n) + up * 2 ^ k) * 2 ^ (k * n) + lo % 2 ^ (k * n)
    apart =
        omega (
          arith,
          div-add-mod' lo (2 ^ (k * n)),
          add-mul (lo / 2 ^ (k * n)) (up * 2 ^ k) (2 ^ (k * n)),
          ap (λ (m : ℕ). hi * m) power,
          mul_assoc hi (2 ^ (j - (k * n + k)) * 2 ^ k) (2 ^ (k * n)),
          ap (λ (m : ℕ). m * 2 ^ (k * n)) (mul_assoc hi (2 ^ (j - (k * n + k))) (2 ^ k)),
        )

pub field-high : (k n j hi lo : ℕ) → lo < 2 ^ j → (hi * 2 ^ j + lo) / 2 ^ (j + k * n) % 2 ^ k ≡ field_of k hi n
field-high k n j hi lo h =
    ap (λ (m : ℕ). m % 2 ^ k) (sym (shr-shr (hi * 2 ^ j + lo) j (k * n)) ∙ ap (λ (m : ℕ). m / 2 ^ (k * n)) (digits_div hi h))

pub field_lt : (k x n : ℕ) → field_of k x n < 2 ^ k
field_lt k x n = mod-lt (x / 2 ^ (k * n)) (pow_pos k)

-- a field of twice the bits is two, the low one first
pub field-join : (k x n : ℕ) → field_of (k + k) x n ≡ field_of k x (2 * n) + 2 ^ k * field_of k x (2 * n + 1)
field-join k x n =
    mod-pow-add (x / 2 ^ ((k + k) * n)) k k
    ∙ ap₂ (λ (a b : ℕ). a % 2 ^ k * 2 ^ k + b % 2 ^ k) (shr-shr x ((k + k) * n) k ∙ ap (λ (m : ℕ). x / 2 ^ m) odd) (ap (λ (m : ℕ). x / 2 ^ m) even)
    ∙ omega (arith, mul_comm (field_of k x (2 * n + 1)) (2 ^ k))
  where
    even : (k + k) * n ≡ k * (2 * n)
    even = omega (arith, add-mul k k n, ap (λ (m : ℕ). k * m) (two-mul n), mul-add k n n)

    odd : (k + k) * n + k ≡ k * (2 * n + 1)
    odd = omega (arith, even, mul-add k (2 * n) 1, mul-one k)
