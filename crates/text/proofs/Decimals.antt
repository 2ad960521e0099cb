-- A number in decimal: the function and the relation agree, a text is of one number, and each byte of it is a digit.
use Prim.Native.Nat.{ℕ, zero, suc, ◌+◌, ◌*◌, ◌-◌, ◌/◌, ◌%◌, ◌^◌, ◌≤◌, ◌<◌}
use mathlib.Core.Path.{◌≡◌, refl, ap, ap₂, sym, ◌∙◌, subst}
use mathlib.Core.Bool.{cond}
use mathlib.Core.List.{List, [], ◌∷◌, ◌++◌}
use mathlib.Core.Logic.{◌⊎◌, inl, inr, ⊎_elim}
use native.Mathlib.Decide.{dec_lt}
use native.Mathlib.Nat.{pow-suc, pow-le-pow_right}
use native.Mathlib.Omega.{arith}
use borrow.Author.Tests.{lt-ltb, le-ltb}
use lib.Dec.{ltb}
use lib.ListN.{length, length-append}
use lib.IntN.{ℤ, pos, negsuc}
use Rattle.io.specs.Digits.{last_digits, hex_digit_ascii, IsDigitCount}
use Rattle.text.specs.Decimal.{leading, decimal, Decimal, minus, spelled}
use Rattle.text.specs.Words.{Every, Without}
use Rattle.text.proofs.Words.{every_append, every_map}

-- ---- by one digit more at the end: how every fact of `decimal` is shown

digit : (d : ℕ) → d < 10 → 48 + d ≡ hex_digit_ascii d
digit d h = rw (lt-ltb d 10 h)

leading-none : (k : ℕ) → leading k 0 ≡ []
unfolding leading
leading-none zero = refl
leading-none (suc k) = refl

leading-more : (k n : ℕ) → 1 ≤ n → leading (suc k) n ≡ leading k (n / 10) ++ hex_digit_ascii (n % 10) ∷ []
unfolding leading
leading-more k zero h = absurd (let none : ⊥ = omega arith in none)
leading-more k (suc n) h = refl

module _ (P : ℕ → List ℕ → Type 0) (one : (n : ℕ) → n < 10 → P n ((48 + n) ∷ []))
    (more : (n : ℕ) (text : List ℕ) → 10 ≤ n → P (n / 10) text → P n (text ++ (48 + n % 10) ∷ [])) where
  alone : (k n : ℕ) → n < 10 → P n (leading k (n / 10) ++ hex_digit_ascii (n % 10) ∷ [])
  alone k n h =
      let none : n / 10 ≡ 0 = omega arith in
      let last : n % 10 ≡ n = omega arith in
      rw (none, last, lt-ltb n 10 h, leading-none k) (one n h)

  by-measure : (k n : ℕ) → n / 10 ≤ k → P n (leading k (n / 10) ++ hex_digit_ascii (n % 10) ∷ [])
  by-measure zero n h = alone zero n (omega arith)
  by-measure (suc k) n h =
      elim (dec_lt n 10) [
        | yes small ↦ alone (suc k) n small
        | no large ↦ rw (leading-more k (n / 10) (omega arith), lt-ltb (n % 10) 10 (omega arith))
            (more n (leading k (n / 10 / 10) ++ hex_digit_ascii (n / 10 % 10) ∷ []) (omega arith) (by-measure k (n / 10) (omega arith)))
      ]

  by_digits : (n : ℕ) → P n (decimal n)
  unfolding decimal
  by_digits n = by-measure n n (omega arith)

-- ---- in the fewest digits

-- no more than any count that holds it
no_more : {n k j : ℕ} → IsDigitCount 10 1 n k → 1 ≤ j → n < 10 ^ j → k ≤ j
no_more {n} {k} {j} f l h =
    elim (dec_lt j k) [
      | yes more ↦ let none : ⊥ = omega (arith, f.2 (omega arith), pow-le-pow_right {n = 10} (omega arith) {i = j} {j = k - 1} (omega arith)) in absurd none
      | no less ↦ omega arith
    ]

pub twenty-digits : {n k : ℕ} → IsDigitCount 10 1 n k → n < 2 ^ 64 → k ≤ 20
twenty-digits f h = no_more f (omega arith) (omega arith)

pub decimal-once : {n : ℕ} {a b : List ℕ} → Decimal n a → Decimal n b → a ≡ b
decimal-once {n} p q =
    let less : p.count ≤ q.count = no_more p.fewest q.fewest.0 q.fewest.1 in
    let more : q.count ≤ p.count = no_more q.fewest p.fewest.0 p.fewest.1 in
    let same : p.count ≡ q.count = omega arith in
    p.spelled ∙ ap (λ (k : ℕ). last_digits 10 k n) same ∙ sym q.spelled

longer : (n c : ℕ) → 10 ≤ n → IsDigitCount 10 1 (n / 10) c → IsDigitCount 10 1 n (suc c)
longer n zero h f = absurd (let none : ⊥ = omega (arith, f.0) in none)
longer n (suc zero) h f = (omega arith, omega (arith, f.1), λ l. omega arith)
longer n (suc (suc c)) h f =
    let e : suc (suc (suc c)) - 1 ≡ suc (suc (suc c) - 1) = omega arith in
    let grown : 10 ^ (suc (suc (suc c)) - 1) ≡ 10 ^ (suc (suc c) - 1) * 10 = ap (λ (k : ℕ). 10 ^ k) e ∙ pow-suc 10 (suc (suc c) - 1) in
    (omega arith, omega (arith, pow-suc 10 (suc (suc c)), f.1), λ l. omega (arith, f.2 (omega arith)))

pub decimal-is : (n : ℕ) → Decimal n (decimal n)
decimal-is n =
    by_digits Decimal
    (λ n h. record {
      count = 1;
      fewest = (omega arith, omega arith, λ l. omega arith);
      spelled = ap (λ (d : ℕ). d ∷ []) (omega (arith, digit (n % 10) (omega arith)));
    })
    (λ n text h p. record {
      count = suc p.count;
      fewest = longer n p.count h p.fewest;
      spelled = ap₂ (λ (l : List ℕ) (d : ℕ). l ++ d ∷ []) p.spelled (digit (n % 10) (omega arith));
    })
    n

digits-count : (k n : ℕ) → length (last_digits 10 k n) ≡ k
digits-count zero n = refl
digits-count (suc k) n = length-append (last_digits 10 k (n / 10)) (hex_digit_ascii (n % 10) ∷ []) ∙ omega (arith, digits-count k (n / 10))

decimal-length : (n : ℕ) → length (decimal n) ≡ (decimal-is n).count
decimal-length n = ap length (decimal-is n).spelled ∙ digits-count (decimal-is n).count n

pub decimal-within : (n j : ℕ) → 1 ≤ j → n < 10 ^ j → length (decimal n) ≤ j
decimal-within n j l h = omega (arith, decimal-length n, no_more (decimal-is n).fewest l h)

pub decimal-short : (n : ℕ) → n < 2 ^ 64 → length (decimal n) ≤ 20
decimal-short n h = omega (arith, decimal-length n, twenty-digits (decimal-is n).fewest h)

pub decimal-some : (n : ℕ) → 1 ≤ length (decimal n)
decimal-some n = omega (arith, decimal-length n, (decimal-is n).fewest.0)

-- ---- one to one

value_on : ℕ → List ℕ → ℕ
value_on a [] = a
value_on a (d ∷ ds) = value_on (10 * a + (d - 48)) ds

value-more : (a d : ℕ) (text : List ℕ) → value_on a (text ++ d ∷ []) ≡ 10 * value_on a text + (d - 48)
unfolding value_on
value-more a d [] = refl
value-more a d (t ∷ text) = value-more (10 * a + (t - 48)) d text

value-is : (n : ℕ) → value_on 0 (decimal n) ≡ n
unfolding value_on
value-is n =
    by_digits (λ n text. value_on 0 text ≡ n) (λ n h. omega arith)
    (λ n text h p. value-more 0 (48 + n % 10) text ∙ omega (arith, p)) n

pub decimal-back : {m n : ℕ} → decimal m ≡ decimal n → m ≡ n
decimal-back {m} {n} e = sym (value-is m) ∙ ap (value_on 0) e ∙ value-is n

-- ---- the bytes

abbrev pub Digit : ℕ → Type 0
Digit b = (48 ≤ b) × (b ≤ 57)

pub decimal-digits : (n : ℕ) → Every Digit (decimal n)
decimal-digits n =
    by_digits (λ n text. Every Digit text) (λ n h. ((omega arith, omega arith), tt))
    (λ n text h p. every_append Digit text ((48 + n % 10) ∷ []) p ((omega arith, omega arith), tt)) n

-- ---- integers

pub spelled-some : (x : ℤ) → 1 ≤ length (spelled x)
unfolding spelled
spelled-some (pos n) = decimal-some n
spelled-some (negsuc n) = omega arith

pub spelled-digits : (x : ℤ) → Every (λ b. Digit b ⊎ (b ≡ minus)) (spelled x)
unfolding spelled
spelled-digits (pos n) = every_map (λ b d. inl d) (decimal n) (decimal-digits n)
spelled-digits (negsuc n) = (inr refl, every_map (λ b d. inl d) (decimal (suc n)) (decimal-digits (suc n)))

pub spelled-without : (b : ℕ) → (Digit b → ⊥) → (minus ≡ b → ⊥) → (x : ℤ) → Without b (spelled x)
spelled-without b f g x = every_map (λ c d e. ⊎_elim (λ h. f (subst Digit e h)) (λ h. g (sym h ∙ e)) d) (spelled x) (spelled-digits x)

no_minus : (n : ℕ) (text : List ℕ) → decimal n ≡ minus ∷ text → ⊥
no_minus n text e = let p : Every Digit (minus ∷ text) = subst (Every Digit) e (decimal-digits n) in omega (arith, p.0.0)

pub spelled_back : {x y : ℤ} → spelled x ≡ spelled y → x ≡ y
unfolding spelled
spelled_back {x = pos m} {y = pos n} e = ap pos (decimal-back e)
spelled_back {x = pos m} {y = negsuc n} e = absurd (no_minus m (decimal (suc n)) e)
spelled_back {x = negsuc m} {y = pos n} e = absurd (no_minus n (decimal (suc m)) (sym e))
spelled_back {x = negsuc m} {y = negsuc n} e =
    let same : decimal (suc m) ≡ decimal (suc n) = cc in
    ap negsuc (omega (arith, decimal-back same))

-- of 64 bits, signed or not
abbrev pub Word : ℤ → Type 0
Word (pos n) = n < 2 ^ 64
Word (negsuc n) = n < 2 ^ 63

pub spelled-short : (x : ℤ) → Word x → length (spelled x) ≤ 20
unfolding spelled
spelled-short (pos n) h = decimal-short n h
spelled-short (negsuc n) h = omega (arith, decimal-within (suc n) 19 (omega arith) (omega arith))

-- the integer of at most 64 bits in two's complement
pub signed_word : (N v : ℕ) → N ≤ 64 → Word (cond (ltb v (2 ^ (N - 1))) (pos v) (negsuc (2 ^ N - suc v)))
signed_word N v l =
    let whole : 2 ^ N ≤ 2 ^ suc (N - 1) = pow-le-pow_right {n = 2} (omega arith) {i = N} {j = suc (N - 1)} (omega arith) in
    let half : 2 ^ (N - 1) ≤ 2 ^ 63 = pow-le-pow_right {n = 2} (omega arith) {i = N - 1} {j = 63} (omega arith) in
    elim (dec_lt v (2 ^ (N - 1))) [
      | yes low ↦ rw (lt-ltb v (2 ^ (N - 1)) low) (omega arith)
      | no high ↦ rw (le-ltb v (2 ^ (N - 1)) (omega arith)) (omega (arith, pow-suc 2 (N - 1)))
    ]
