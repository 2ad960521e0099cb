-- The ones of every byte of a word at once.
use mathlib.Core.Path.{◌≡◌, refl, sym, ap, ap₂, ◌∙◌}
use mathlib.Core.Bool.{true}
use Prim.Native.Nat.{ℕ, zero, suc, ◌+◌, ◌*◌, ◌-◌, ◌/◌, ◌%◌, ◌^◌, ◌≤◌, ◌<◌}
use native.Mathlib.Nat.{le_trans, lt_of_le_of_lt, sub-le, mod-lt}
use native.Mathlib.Omega.{arith}
use lib.Bits.{bit_and, and_le_l, and_mask, and_block}
use lib.Count.{ones}
use lib.Dec.{eqb, leb, lit<}
use lib.Pow.{pow_pos, shr_le}
use borrow.Author.Tests.{eqb-true, leb-true}
use Rattle.operation.specs.Op.{all}
use Rattle.operation.proofs.Laws.Scan.{all-each}
use Rattle.lane.specs.Inner.Words.{fieldwise}
use Rattle.lane.proofs.Laws.Words.{fieldwise-same, fieldwise-self, fieldwise-add, fieldwise-sub, Stays, fieldwise-twice, masked, masked-here}

-- ---- one byte: the ones of each two bits, of each four, of all eight

abbrev twos : ℕ → ℕ
twos r = r - bit_and (r / 2 ^ 1) 0x55

abbrev fours : ℕ → ℕ
fours r = bit_and r 0x33 + bit_and (r / 2 ^ 2) 0x33

-- four bits, and the four above them
abbrev eights : ℕ → ℕ
eights t = t % 2 ^ 4 + t / 2 ^ 4

-- each of the 256 bytes looked at: its fours are at most 4, and together its ones
low-four : all 256 (λ r. leb (fours (twos r) % 2 ^ 4) 4) ≡ true
low-four = refl

high-four : all 256 (λ r. leb (fours (twos r) / 2 ^ 4) 4) ≡ true
high-four = refl

both-fours : all 256 (λ r. eqb (eights (fours (twos r))) (ones r)) ≡ true
unfolding ones
both-fours = refl

-- no four bits hold more than 4
abbrev Small : ℕ → Type 0
Small t = (t % 2 ^ 4 ≤ 4) × (t / 2 ^ 4 ≤ 4)

byte_small : (r : ℕ) → r < 2 ^ 8 → Small (fours (twos r))
byte_small r l = (
  leb-true (fours (twos r) % 2 ^ 4) 4 (all-each 256 r (λ i. leb (fours (twos i) % 2 ^ 4) 4) low-four l),
  leb-true (fours (twos r) / 2 ^ 4) 4 (all-each 256 r (λ i. leb (fours (twos i) / 2 ^ 4) 4) high-four l),
)

byte-ones : (r : ℕ) → r < 2 ^ 8 → eights (fours (twos r)) ≡ ones r
byte-ones r l = eqb-true (eights (fours (twos r))) (ones r) (all-each 256 r (λ i. eqb (eights (fours (twos i))) (ones i)) both-fours l)

-- ---- a word of eight

twos-all : (x : ℕ) → x < 2 ^ 64 → x - bit_and (x / 2 ^ 1) 0x5555_5555_5555_5555 ≡ fieldwise 8 8 twos x
unfolding fieldwise
twos-all x h =
    ap₂ (λ (a b : ℕ). a - b) (sym (fieldwise-self 8 8 x h)) (masked 7 1 8 0x55 x 0 (lit< tt))
    ∙ fieldwise-sub 8 8 (λ r. r) (λ r. bit_and (r / 2 ^ 1) 0x55) x (λ r. le_trans (and_le_l (r / 2 ^ 1) 0x55) (shr_le r 1))

twos-stay : Stays 8 twos
twos-stay r l = lt_of_le_of_lt (sub-le r (bit_and (r / 2 ^ 1) 0x55)) l

fours-all : (y : ℕ) → bit_and y 0x3333_3333_3333_3333 + bit_and (y / 2 ^ 2) 0x3333_3333_3333_3333 ≡ fieldwise 8 8 fours y
unfolding fieldwise
fours-all y =
    ap₂ (λ (a b : ℕ). a + b) (masked-here 8 8 0x33 y 0 (lit< tt)) (masked 6 2 8 0x33 y 0 (lit< tt))
    ∙ fieldwise-add 8 8 (λ r. bit_and r 0x33) (λ r. bit_and (r / 2 ^ 2) 0x33) y

-- the lowest four bits are of the lowest byte
small_low : (m : ℕ) (f : ℕ → ℕ) (x : ℕ) → ((r : ℕ) → r < 2 ^ 8 → Small (f r)) → fieldwise 8 m f x % 2 ^ 4 ≤ 4
unfolding fieldwise
small_low zero f x h = omega arith
small_low (suc m) f x h =
    let a : ℕ = fieldwise 8 m f (x / 2 ^ 8) in let t : ℕ = f (x % 2 ^ 8) in let s : Small t = h (x % 2 ^ 8) (mod-lt x (pow_pos 8)) in
    let s₀ : t % 2 ^ 4 ≤ 4 = s.0 in
    let e : (a * 2 ^ 8 + t) % 2 ^ 4 ≤ 4 = omega arith in e

-- no sum of two fours leaves its four bits, and the one that takes in the next byte's is masked away
eights-all : (m : ℕ) (f : ℕ → ℕ) (x z : ℕ) → ((r : ℕ) → r < 2 ^ 8 → Small (f r))
    → bit_and (fieldwise 8 m f x + fieldwise 8 m f x / 2 ^ 4) (fieldwise 8 m (λ r. 0x0F) z) ≡ fieldwise 8 m (λ r. eights (f r)) x
unfolding fieldwise
eights-all zero f x z h = refl
eights-all (suc m) f x z h =
    let a : ℕ = fieldwise 8 m f (x / 2 ^ 8) in let t : ℕ = f (x % 2 ^ 8) in let s : Small t = h (x % 2 ^ 8) (mod-lt x (pow_pos 8)) in
    let s₀ : t % 2 ^ 4 ≤ 4 = s.0 in let s₁ : t / 2 ^ 4 ≤ 4 = s.1 in let l : a % 2 ^ 4 ≤ 4 = small_low m f (x / 2 ^ 8) h in
    let n : ℕ = t + a % 2 ^ 4 * 2 ^ 4 + t / 2 ^ 4 in
    let e : (a * 2 ^ 8 + t) + (a * 2 ^ 8 + t) / 2 ^ 4 ≡ (a + a / 2 ^ 4) * 2 ^ 8 + n = omega arith in
    let b : n < 2 ^ 8 = omega arith in
    let c : n % 2 ^ 4 ≡ eights t = omega arith in
    ap (λ (y : ℕ). bit_and y (fieldwise 8 m (λ r. 0x0F) (z / 2 ^ 8) * 2 ^ 8 + 0x0F)) e
    ∙ and_block 8 (a + a / 2 ^ 4) (fieldwise 8 m (λ r. 0x0F) (z / 2 ^ 8)) n 0x0F b (lit< tt)
    ∙ ap₂ (λ (p q : ℕ). p * 2 ^ 8 + q) (eights-all m f (x / 2 ^ 8) (z / 2 ^ 8) h) (and_mask n 4 ∙ c)

-- t and f are `twos` and `fours` of `ones_of_bytes`
pub ones-word : (x t f : ℕ) → x < 2 ^ 64 → t ≡ x - bit_and (x / 2 ^ 1) 0x5555_5555_5555_5555
    → f ≡ bit_and t 0x3333_3333_3333_3333 + bit_and (t / 2 ^ 2) 0x3333_3333_3333_3333
    → bit_and (f + f / 2 ^ 4) 0x0F0F_0F0F_0F0F_0F0F ≡ fieldwise 8 8 ones x
unfolding fieldwise
ones-word x t f h e g =
    ap (λ (y : ℕ). bit_and (y + y / 2 ^ 4) 0x0F0F_0F0F_0F0F_0F0F)
    (g ∙ fours-all t ∙ ap (fieldwise 8 8 fours) (e ∙ twos-all x h) ∙ fieldwise-twice 8 8 twos fours x twos-stay)
    ∙ eights-all 8 (λ r. fours (twos r)) x 0 byte_small
    ∙ fieldwise-same 8 8 (λ r. eights (fours (twos r))) ones x byte-ones
