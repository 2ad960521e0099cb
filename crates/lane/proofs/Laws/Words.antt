-- A word by its fields: what is done in every field at once, and the lanes of a vector in its words.
use mathlib.Core.Path.{◌≡◌, refl, sym, ap, ap₂, ◌∙◌, subst}
use mathlib.Core.List.{List}
use Prim.Native.Nat.{ℕ, zero, suc, ◌+◌, ◌*◌, ◌-◌, ◌/◌, ◌%◌, ◌^◌, ◌≤◌, ◌<◌}
use native.Mathlib.Nat.{add-zero, add_comm, mul_comm, mul_assoc, mul-add, add-mul, mul-suc, mul-zero, zero-mul}
use native.Mathlib.Nat.{div-one, mod-lt, mod-eq_of_lt, lt_of_le_of_lt, not-suc-le-zero, le_of_suc-le-suc, mul-le-mul_left, sub-add_cancel}
use native.Mathlib.Omega.{arith}
use lib.Arith.{lt-one}
use lib.Dec.{lit<}
use lib.Bits.{bit_and, and_zero_r, and_block, and_mod, and_le_r}
use lib.Pow.{pow_pos, pow_mono, split, high, low, field, shr-shr, shr_lt, mod-mod-pow}
use mir.Syntax.{Width, w8, w16, w32, w64, w128}
use mir.Val.{bits}
use Rattle.operation.specs.Vector.{number, lane, build, Sixteen}
use Rattle.operation.proofs.Laws.Number.{field_of, field-low}
use Rattle.operation.proofs.Laws.Build.{build-same, in-lanes, field-build}
use Rattle.lane.specs.Inner.Words.{fieldwise}

-- ---- one field after the other

pub fieldwise-same : (k m : ℕ) (f g : ℕ → ℕ) (x : ℕ) → ((r : ℕ) → r < 2 ^ k → f r ≡ g r) → fieldwise k m f x ≡ fieldwise k m g x
unfolding fieldwise
fieldwise-same k zero f g x e = refl
fieldwise-same k (suc m) f g x e = ap₂ (λ (a b : ℕ). a * 2 ^ k + b) (fieldwise-same k m f g (x / 2 ^ k) e) (e (x % 2 ^ k) (mod-lt x (pow_pos k)))

-- a number of m fields is its fields
pub fieldwise-self : (k m x : ℕ) → x < 2 ^ (m * k) → fieldwise k m (λ r. r) x ≡ x
unfolding fieldwise
fieldwise-self k zero x h = sym (lt-one (subst (λ (j : ℕ). x < 2 ^ j) (zero-mul k) h))
fieldwise-self k (suc m) x h =
    ap (λ (a : ℕ). a * 2 ^ k + x % 2 ^ k) (fieldwise-self k m (x / 2 ^ k) (shr_lt (m * k) k (subst (λ (j : ℕ). x < 2 ^ j) (suc-field m k) h))) ∙ split x k
  where
    suc-field : (m k : ℕ) → suc m * k ≡ m * k + k
    suc-field m k = omega (arith, add-mul m 1 k)

pub fieldwise-add : (k m : ℕ) (f g : ℕ → ℕ) (x : ℕ) → fieldwise k m f x + fieldwise k m g x ≡ fieldwise k m (λ r. f r + g r) x
unfolding fieldwise
fieldwise-add k zero f g x = refl
fieldwise-add k (suc m) f g x =
    let a : ℕ = fieldwise k m f (x / 2 ^ k) in let b : ℕ = fieldwise k m g (x / 2 ^ k) in
    let e : (a * 2 ^ k + f (x % 2 ^ k)) + (b * 2 ^ k + g (x % 2 ^ k)) ≡ (a + b) * 2 ^ k + (f (x % 2 ^ k) + g (x % 2 ^ k)) = omega (arith, add-mul a b (2 ^ k)) in
    e ∙ ap (λ (c : ℕ). c * 2 ^ k + (f (x % 2 ^ k) + g (x % 2 ^ k))) (fieldwise-add k m f g (x / 2 ^ k))

pub fieldwise-sub : (k m : ℕ) (f g : ℕ → ℕ) (x : ℕ) → ((r : ℕ) → g r ≤ f r) → fieldwise k m f x - fieldwise k m g x ≡ fieldwise k m (λ r. f r - g r) x
fieldwise-sub k m f g x h =
    let e : fieldwise k m (λ r. f r - g r) x + fieldwise k m g x ≡ fieldwise k m f x =
    fieldwise-add k m (λ r. f r - g r) g x ∙ fieldwise-same k m (λ r. f r - g r + g r) f x (λ r l. sub-add_cancel (h r)) in
    omega arith

-- what f makes of a field fits in it
abbrev pub Stays : ℕ → (ℕ → ℕ) → Type 0
Stays k f = (r : ℕ) → r < 2 ^ k → f r < 2 ^ k

pub fieldwise-twice : (k m : ℕ) (f g : ℕ → ℕ) (x : ℕ) → Stays k f → fieldwise k m g (fieldwise k m f x) ≡ fieldwise k m (λ r. g (f r)) x
unfolding fieldwise
fieldwise-twice k zero f g x h = refl
fieldwise-twice k (suc m) f g x h =
    let a : ℕ = fieldwise k m f (x / 2 ^ k) in let l : f (x % 2 ^ k) < 2 ^ k = h (x % 2 ^ k) (mod-lt x (pow_pos k)) in
    ap₂ (λ (c d : ℕ). fieldwise k m g c * 2 ^ k + g d) (high a k l) (low a k l)
    ∙ ap (λ (c : ℕ). c * 2 ^ k + g (f (x % 2 ^ k))) (fieldwise-twice k m f g (x / 2 ^ k) h)

pub field_next : (k x n : ℕ) → field_of k (x / 2 ^ k) n ≡ field_of k x (suc n)
field_next k x n = ap (λ (y : ℕ). y % 2 ^ k) (shr-shr x k (k * n) ∙ ap (λ (j : ℕ). x / 2 ^ j) (omega (arith, mul-suc k n)))

pub field-first : (k x : ℕ) → field_of k x 0 ≡ x % 2 ^ k
field-first k x = ap (λ (j : ℕ). x / 2 ^ j % 2 ^ k) (mul-zero k) ∙ ap (λ (y : ℕ). y % 2 ^ k) (div-one x)

-- field n is what f makes of field n
fieldwise-at : (k m n : ℕ) (f : ℕ → ℕ) (x : ℕ) → Stays k f → n < m → field_of k (fieldwise k m f x) n ≡ f (field_of k x n)
unfolding fieldwise
fieldwise-at k zero n f x h l = absurd (not-suc-le-zero l)
fieldwise-at k (suc m) zero f x h l =
    field-first k _ ∙ low (fieldwise k m f (x / 2 ^ k)) k (h (x % 2 ^ k) (mod-lt x (pow_pos k))) ∙ ap f (sym (field-first k x))
fieldwise-at k (suc m) (suc n) f x h l =
    sym (field_next k _ n)
    ∙ ap (λ (y : ℕ). field_of k y n) (high (fieldwise k m f (x / 2 ^ k)) k (h (x % 2 ^ k) (mod-lt x (pow_pos k))))
    ∙ fieldwise-at k m n f (x / 2 ^ k) h (le_of_suc-le-suc l) ∙ ap f (field_next k x n)

-- ---- a mask that is c in every field: fieldwise of a constant, which looks at no z

-- a mask of j bits sees j bits
and_low : (j y c : ℕ) → c < 2 ^ j → bit_and y c ≡ bit_and (y % 2 ^ j) c
and_low j y c h =
    sym (mod-eq_of_lt (lt_of_le_of_lt (and_le_r y c) h)) ∙ and_mod y c j ∙ ap (λ (d : ℕ). bit_and (y % 2 ^ j) d) (mod-eq_of_lt h)

-- after a shift by s the j bits that it keeps are of the same field
pub masked : (j s m c x z : ℕ) → c < 2 ^ j → bit_and (x / 2 ^ s) (fieldwise (j + s) m (λ r. c) z) ≡ fieldwise (j + s) m (λ r. bit_and (r / 2 ^ s) c) x
unfolding fieldwise
masked j s zero c x z h = and_zero_r (x / 2 ^ s)
masked j s (suc m) c x z h =
    ap (λ (y : ℕ). bit_and y (fieldwise (j + s) m (λ r. c) (z / 2 ^ (j + s)) * 2 ^ (j + s) + c)) (sym (split (x / 2 ^ s) (j + s)))
    ∙ and_block (j + s) (x / 2 ^ s / 2 ^ (j + s)) (fieldwise (j + s) m (λ r. c) (z / 2 ^ (j + s))) (x / 2 ^ s % 2 ^ (j + s)) c
    (mod-lt (x / 2 ^ s) (pow_pos (j + s))) (omega (arith, pow_mono wider))
    ∙ ap₂ (λ (a b : ℕ). a * 2 ^ (j + s) + b)
    (ap (λ (y : ℕ). bit_and y (fieldwise (j + s) m (λ r. c) (z / 2 ^ (j + s)))) swap ∙ masked j s m c (x / 2 ^ (j + s)) (z / 2 ^ (j + s)) h)
    (and_low j (x / 2 ^ s % 2 ^ (j + s)) c h ∙ ap (λ (y : ℕ). bit_and y c) within-field)
  where
    wider : j ≤ j + s
    wider = omega arith

    swap : x / 2 ^ s / 2 ^ (j + s) ≡ x / 2 ^ (j + s) / 2 ^ s
    swap = shr-shr x s (j + s) ∙ ap (λ (i : ℕ). x / 2 ^ i) (add_comm s (j + s)) ∙ sym (shr-shr x (j + s) s)

    within-field : x / 2 ^ s % 2 ^ (j + s) % 2 ^ j ≡ x % 2 ^ (j + s) / 2 ^ s
    within-field =
        ap (λ (i : ℕ). x / 2 ^ s % 2 ^ i % 2 ^ j) (add_comm j s) ∙ mod-mod-pow (x / 2 ^ s) s j ∙ sym (field x j s)

pub masked-here : (k m c x z : ℕ) → c < 2 ^ k → bit_and x (fieldwise k m (λ r. c) z) ≡ fieldwise k m (λ r. bit_and r c) x
masked-here k m c x z h = subst (λ (j : ℕ). bit_and x (fieldwise j m (λ r. c) z) ≡ fieldwise j m (λ r. bit_and r c) x) (add-zero k) unmoved
  where
    unmoved : bit_and x (fieldwise (k + 0) m (λ r. c) z) ≡ fieldwise (k + 0) m (λ r. bit_and r c) x
    unmoved =
        ap (λ (y : ℕ). bit_and y (fieldwise (k + 0) m (λ r. c) z)) (sym (div-one x)) ∙ masked k 0 m c x z h
        ∙ fieldwise-same (k + 0) m (λ r. bit_and (r / 2 ^ 0) c) (λ r. bit_and r c) x (λ r l. ap (λ (y : ℕ). bit_and y c) (div-one r))

-- ---- lanes of words

-- bits from j on are in none of the fields below j
low_field : (k n j y : ℕ) → k * n + k ≤ j → field_of k (y % 2 ^ j) n ≡ field_of k y n
low_field k n j y h = sym (field-low k n j (y / 2 ^ j) (y % 2 ^ j) h) ∙ ap (λ (u : ℕ). field_of k u n) (split y j)

-- field n of the c-th m fields
within : (k m x n c : ℕ) → n < m → field_of k (field_of (m * k) x c) n ≡ field_of k x (m * c + n)
within k m x n c l =
    let y : ℕ = x / 2 ^ (m * k * c) in
    low_field k n (m * k) y room
    ∙ ap (λ (u : ℕ). u % 2 ^ k) (shr-shr x (m * k * c) (k * n) ∙ ap (λ (j : ℕ). x / 2 ^ j) place)
  where
    room : k * n + k ≤ m * k
    room = omega (arith, mul-suc k n, mul-le-mul_left k l, mul_comm k m)

    place : m * k * c + k * n ≡ k * (m * c + n)
    place = omega (arith, mul-add k (m * c) n, mul_assoc k m c, ap (λ (j : ℕ). j * c) (mul_comm k m))

pub word_lane : (w : Width) (v : List ℕ) (c n : ℕ) → n < 64 / bits w → field_of (bits w) (lane w64 v c) n ≡ lane w v (64 / bits w * c + n)
unfolding lane
word_lane w8 v c n l = within 8 8 (number v) n c l
word_lane w16 v c n l = within 16 4 (number v) n c l
word_lane w32 v c n l = within 32 2 (number v) n c l
word_lane w64 v c n l = within 64 1 (number v) n c l
word_lane w128 v c n l = elim l [ ]

-- two words, each byte of which f made of that byte of a, are the vector of which f made each byte
pub words-bytewise : (f : ℕ → ℕ) (a v : List ℕ) → Stays 8 f → Sixteen v → v ≡ build 8 2 (λ c. fieldwise 8 8 f (lane w64 a c))
    → v ≡ build 1 16 (λ n. f (lane w8 a n))
unfolding lane
words-bytewise f a v h s e =
    in-lanes 1 16 v refl s
    ∙ build-same 1 16 (field_of 8 (number v)) (λ n. f (lane w8 a n)) (λ n l. subst same (sym (parts n)) (each (n / 8) (n % 8) (few n l) (mod-lt n (lit< tt))))
  where
    same : ℕ → Type 0
    same n = field_of 8 (number v) n ≡ f (lane w8 a n)

    parts : (n : ℕ) → n ≡ 8 * (n / 8) + n % 8
    parts n = omega arith

    few : (n : ℕ) → n < 16 → n / 8 < 2
    few n l = omega arith

    room : (k : ℕ) → k < 8 → 8 * k + 8 ≤ 64
    room k l = omega arith

    each : (c k : ℕ) → c < 2 → k < 8 → same (8 * c + k)
    each c k lc lk =
        sym (word_lane w8 v c k lk)
        ∙ ap (λ (x : ℕ). field_of 8 x k) (ap (λ (u : List ℕ). lane w64 u c) e ∙ field-build 8 2 c (λ i. fieldwise 8 8 f (lane w64 a i)) lc)
        ∙ low_field 8 k 64 (fieldwise 8 8 f (lane w64 a c)) (room k lk)
        ∙ fieldwise-at 8 8 k f (lane w64 a c) h lk
        ∙ ap f (word_lane w8 a c k lk)
