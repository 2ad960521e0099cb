-- What the grammar's bytes are: some, few, bytes; the integer is one of its width; and the number of bytes fixes them.
use Prim.Native.Nat.{ℕ, zero, suc, ◌+◌, ◌-◌, ◌*◌, ◌<◌, ◌≤◌, ◌^◌}
use mathlib.Core.Path.{◌≡◌, sym, ap, ◌∙◌}
use mathlib.Core.Bool.{Bool, true, false}
use mathlib.Core.List.{List, [], ◌∷◌}
use native.Mathlib.Omega.{arith}
use lib.ListN.{length}
use lib.IntN.{ℤ, pos, negsuc}
use lib.Signed.{mag}
use Rattle.leb128.specs.Shortest.{low, high}
use Rattle.leb128.specs.Grammar.{Written, u_last, s_low, s_high, more}
use Rattle.leb128.specs.Bytes.{bytes}
use Rattle.leb128.proofs.Arith.{pow-seven, half-seven, up, up_pos, up_neg, high-up, low_up, down}

pub some_bytes : {sign : Bool} {N : ℕ} {bs : List ℕ} {z : ℤ} → Written sign N bs z → 0 < length bs
some_bytes (u_last h g) = omega arith
some_bytes (s_low h g) = omega arith
some_bytes (s_high h g k e) = omega arith
some_bytes (more h u g w e) = omega arith

-- 5 at most for 32 bits, 10 for 64
pub few_bytes : {sign : Bool} {N : ℕ} {bs : List ℕ} {z : ℤ} → Written sign N bs z → 0 < N → 7 * length bs < N + 7
few_bytes (u_last h g) o = omega arith
few_bytes (s_low h g) o = omega arith
few_bytes (s_high h g k e) o = omega arith
few_bytes (more h u g w e) o = omega (arith, few_bytes w (omega arith))

more_bytes : (n : ℕ) (bs : List ℕ) → n < 256 → bytes bs → bytes (n ∷ bs)
more_bytes n bs h b zero = h
more_bytes n bs h b (suc j) = b j

one_byte : (n : ℕ) → n < 256 → bytes (n ∷ [])
one_byte n h = more_bytes n [] h (λ j. omega arith)

pub are-bytes : {sign : Bool} {N : ℕ} {bs : List ℕ} {z : ℤ} → Written sign N bs z → bytes bs
are-bytes (u_last {n = n} h g) = one_byte n (omega arith)
are-bytes (s_low {n = n} h g) = one_byte n (omega arith)
are-bytes (s_high {n = n} h g k e) = one_byte n (omega arith)
are-bytes (more {n = n} {bs = bs} h u g w e) = more_bytes n bs u (are-bytes w)

-- an integer of u_n, of s_n
abbrev pub Ranged : Bool → ℕ → ℤ → Type 0
Ranged false N (pos n) = n < 2 ^ N
Ranged false N (negsuc n) = ⊥
Ranged true N z = mag z < 2 ^ (N - 1)

up-ranged : (sign : Bool) (N n : ℕ) → 128 ≤ n → n < 256 → 7 < N → (m : ℤ) → Ranged sign (N - 7) m → Ranged sign N (up n m)
up-ranged false N n h u g (pos v) r = rw (up_pos n v h) (omega (arith, pow-seven N g))
up-ranged false N n h u g (negsuc v) r = absurd r
up-ranged true N n h u g (pos v) r = rw (up_pos n v h) (omega (arith, half-seven N g))
up-ranged true N n h u g (negsuc v) r = rw (up_neg n h u v) (omega (arith, half-seven N g))

pub ranged : {sign : Bool} {N : ℕ} {bs : List ℕ} {z : ℤ} → Written sign N bs z → Ranged sign N z
ranged (u_last h g) = g
ranged (s_low h g) = g
ranged (s_high {n = n} h g k e) = rw (e, down n g) (omega arith)
ranged (more {sign = sign} {N = N} {n = n} {m = m} h u g w e) = rw e (up-ranged sign N n h u g m (ranged w))

-- the one way to write an integer in so many bytes
padded : ℕ → ℤ → List ℕ
padded zero z = []
padded (suc zero) z = low z ∷ []
padded (suc (suc k)) z = (128 + low z) ∷ padded (suc k) (high z)

is-padded : {sign : Bool} {N : ℕ} {bs : List ℕ} {z : ℤ} → Written sign N bs z → bs ≡ padded (length bs) z
unfolding padded
is-padded (u_last {n = n} h g) = ap (λ (x : ℕ). x ∷ []) (omega arith)
is-padded (s_low {n = n} h g) = ap (λ (x : ℕ). x ∷ []) (omega arith)
is-padded (s_high {n = n} h g k e) = rw (e, down n g) (ap (λ (x : ℕ). x ∷ []) (omega arith))
is-padded (more {n = n} {m = m} {bs = bs} h u g w e) = rw e (onto bs (some_bytes w) (is-padded w))
  where
    onto : (cs : List ℕ) → 0 < length cs → cs ≡ padded (length cs) m → n ∷ cs ≡ padded (suc (length cs)) (up n m)
    onto [] l q = absurd (omega arith)
    onto (c ∷ cs) l q = rw (low_up n h u m, high-up n h u m) (ap (λ (l : List ℕ). n ∷ l) q)

pub same_bytes : {sign : Bool} {N : ℕ} {bs cs : List ℕ} {z : ℤ} → Written sign N bs z → Written sign N cs z → length bs ≡ length cs → bs ≡ cs
same_bytes {z = z} v w e = is-padded v ∙ ap (λ (n : ℕ). padded n z) e ∙ sym (is-padded w)
