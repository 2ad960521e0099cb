-- The reading function finds an integer where the grammar writes one, and is cut where it begins one.
use Prim.Native.Nat.{ℕ, suc, ◌+◌, ◌-◌, ◌^◌, ◌≤◌, ◌<◌}
use mathlib.Core.Path.{◌≡◌, refl, sym, ap, ◌∙◌}
use mathlib.Core.Bool.{Bool, true, false}
use mathlib.Core.List.{List, [], ◌∷◌, ◌++◌}
use native.Mathlib.Omega.{arith}
use lib.Dec.{ltb, leb}
use lib.Pow.{pow_pos}
use lib.ListN.{length, length-append}
use lib.IntN.{ℤ, pos}
use borrow.Author.Tests.{lt-ltb, le-ltb, le-leb, ltb-true, ltb-false, leb-true}
use Rattle.leb128.specs.Number.{Read, is, cut, wrong, last_of, before, int_of}
use Rattle.leb128.specs.Grammar.{Written, u_last, s_low, s_high, more}
use Rattle.leb128.specs.Bytes.{bytes}
use Rattle.leb128.proofs.Arith.{split, up}

pub more-step : (sign : Bool) (N n : ℕ) (bs : List ℕ) → 128 ≤ n → 7 < N → int_of sign N (n ∷ bs) ≡ before n (int_of sign (N - 7) bs)
unfolding int_of
more-step sign N n bs h g = rw (le-ltb n 128 h, lt-ltb 7 N g)

-- the grammar writes it: it is read, whatever follows
pub reads : {sign : Bool} {N : ℕ} {bs : List ℕ} {z : ℤ} → Written sign N bs z → (rest : List ℕ) → int_of sign N (bs ++ rest) ≡ is z (length bs)
unfolding int_of last_of before
reads (u_last {N = N} {n = n} h g) rest = simp (lt-ltb n 128 h, lt-ltb n (2 ^ N) g)
reads (s_low {N = N} {n = n} h g) rest = simp (lt-ltb n 128 (omega arith), lt-ltb n 64 h, lt-ltb n (2 ^ (N - 1)) g)
reads (s_high {N = N} {n = n} h g k e) rest = rw (e, lt-ltb n 128 g, le-ltb n 64 h, le-leb 128 (n + 2 ^ (N - 1)) k)
reads (more {sign = sign} {N = N} {n = n} {bs = bs} h u g w e) rest =
    more-step sign N n (bs ++ rest) h g ∙ ap (before n) (reads w rest) ∙ ap (λ (y : ℤ). is y (suc (length bs))) (sym e)

one_left : (n b : ℕ) (bs rest : List ℕ) → n ∷ [] ≡ b ∷ bs ++ rest → 0 < length rest → ⊥
one_left n b bs rest e l = omega (arith, ap length e, length-append bs rest)

-- some of its bytes are missing: reading is cut
pub begun : {sign : Bool} {N : ℕ} {cs : List ℕ} {z : ℤ} → Written sign N cs z → (bs rest : List ℕ) → cs ≡ bs ++ rest → 0 < length rest → int_of sign N bs ≡ cut
unfolding int_of before
begun w [] rest e l = refl
begun (u_last {n = n} h g) (b ∷ bs) rest e l = absurd (one_left n b bs rest e l)
begun (s_low {n = n} h g) (b ∷ bs) rest e l = absurd (one_left n b bs rest e l)
begun (s_high {n = n} h g k q) (b ∷ bs) rest e l = absurd (one_left n b bs rest e l)
begun {N = N} (more {sign = sign} {n = n} {bs = cs} h u g w q) (b ∷ bs) rest e l =
    let head : n ≡ b = cc in
    let tail : cs ≡ bs ++ rest = cc in
    more-step sign N b bs (rw head at h) g ∙ ap (before b) (begun {N = N - 7} w bs rest tail l)

-- what a finding says of the bytes
abbrev pub Met : Bool → ℕ → List ℕ → Read → Type 0
Met sign N bs (is z k) = (xs : List ℕ) × (rest : List ℕ) × (bs ≡ xs ++ rest) × (length xs ≡ k) × Written sign N xs z
Met sign N bs cut = (rest : List ℕ) × (z : ℤ) × (0 < length rest) × Written sign N (bs ++ rest) z
Met sign N bs wrong = Unit {0}

met-none : (sign : Bool) (N : ℕ) → Met sign N [] cut
met-none false N = (0 ∷ [], pos 0, omega arith, u_last {n = 0} (omega arith) (pow_pos N))
met-none true N = (0 ∷ [], pos 0, omega arith, s_low {n = 0} (omega arith) (pow_pos (N - 1)))

met-last : (sign : Bool) (N n : ℕ) (bs : List ℕ) → n < 128 → Met sign N (n ∷ bs) (last_of sign N n)
unfolding last_of
met-last false N n bs h =
    split (Met false N (n ∷ bs)) (ltb n (2 ^ N)) (λ e. (n ∷ [], bs, refl, refl, u_last h (ltb-true n (2 ^ N) e))) (λ e. tt)
met-last true N n bs h =
    split (Met true N (n ∷ bs)) (ltb n 64)
    (λ e.
    split (Met true N (n ∷ bs)) (ltb n (2 ^ (N - 1)))
    (λ g. (n ∷ [], bs, refl, refl, s_low (ltb-true n 64 e) (ltb-true n (2 ^ (N - 1)) g)))
    (λ g. tt))
    (λ e.
    split (Met true N (n ∷ bs)) (leb 128 (n + 2 ^ (N - 1)))
    (λ g. (n ∷ [], bs, refl, refl, s_high (ltb-false n 64 e) h (leb-true 128 (n + 2 ^ (N - 1)) g) refl))
    (λ g. tt))

met-more : (sign : Bool) (N n : ℕ) (bs : List ℕ) → 128 ≤ n → n < 256 → 7 < N → (r : Read) → Met sign (N - 7) bs r → Met sign N (n ∷ bs) (before n r)
unfolding before
met-more sign N n bs h u g (is m k) w = (n ∷ w.0, w.1, ap (λ (l : List ℕ). n ∷ l) w.2, ap suc w.3, more h u g w.4 refl)
met-more sign N n bs h u g cut w = (w.0, up n w.1, w.2, more h u g w.3 refl)
met-more sign N n bs h u g wrong w = tt

pub met : (sign : Bool) (N : ℕ) (bs : List ℕ) → bytes bs → Met sign N bs (int_of sign N bs)
unfolding int_of
met sign N [] b = met-none sign N
met sign N (n ∷ bs) b =
    split (Met sign N (n ∷ bs)) (ltb n 128)
    (λ e. met-last sign N n bs (ltb-true n 128 e))
    (λ e.
    split (Met sign N (n ∷ bs)) (ltb 7 N)
    (λ g. met-more sign N n bs (ltb-false n 128 e) (b 0) (ltb-true 7 N g) (int_of sign (N - 7) bs) (met sign (N - 7) bs (λ j. b (suc j))))
    (λ g. tt))
