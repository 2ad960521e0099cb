-- The writing loops: what is still to be written, and to be counted; and an integer by its sign and magnitude.
use Prim.Native.Nat.{ℕ, zero, suc, ◌+◌, ◌/◌, ◌<◌, ◌≤◌}
use mathlib.Core.Path.{◌≡◌, refl, ap, ◌∙◌}
use mathlib.Core.Bool.{Bool, true, false}
use mathlib.Core.List.{List, [], ◌∷◌}
use native.Mathlib.Numerals.{add-one}
use native.Mathlib.Omega.{arith}
use lib.ListN.{length, set, length-set}
use lib.Seq.{sets}
use lib.IntN.{ℤ}
use lib.Signed.{mag}
use Rattle.leb128.specs.Bits.{integer}
use Rattle.leb128.specs.Shortest.{low, high, limit_of, shortest, shortest_of, bytes_of}
use Rattle.leb128.specs.Inner.Room.{int}
use Rattle.leb128.proofs.Arith.{either}
use Rattle.leb128.proofs.Forms.{short-one, short-more, short-some}

mag-int : (neg : Bool) (n : ℕ) → mag (int neg n) ≡ n
mag-int false n = refl
mag-int true n = refl

high-int : (neg : Bool) (n : ℕ) → high (int neg n) ≡ int neg (n / 128)
high-int false n = refl
high-int true n = refl

module _ (limit f : ℕ) (neg : Bool) (n : ℕ) where
  int-one : n < limit → shortest limit (suc f) (int neg n) ≡ low (int neg n) ∷ []
  int-one h = short-one limit f (int neg n) (rw (mag-int neg n) h)

  int-more : limit ≤ n → shortest limit (suc f) (int neg n) ≡ (128 + low (int neg n)) ∷ shortest limit f (int neg (n / 128))
  int-more h =
      short-more limit f (int neg n) (rw (mag-int neg n) h)
      ∙ ap (λ (z : ℤ). (128 + low (int neg n)) ∷ shortest limit f z) (high-int neg n)

pub form-some : (limit : ℕ) (z : ℤ) → 0 < length (shortest_of limit z)
form-some limit z = short-some limit (mag z) z

-- one byte fewer is enough for the rest
less : (f n : ℕ) → 64 ≤ n → n ≤ f → (g : ℕ) × (f ≡ suc g) × (n / 128 ≤ g)
less zero n h l = absurd (omega arith)
less (suc g) n h l = (g, refl, omega arith)

pub record Writing (out₀ : List ℕ) (at : ℕ) (neg : Bool) (n₀ limit : ℕ) (out : List ℕ) (n i : ℕ) : Type 0 where
  pub least : 64 ≤ limit
  pub fits : at + length (shortest_of limit (int neg n₀)) ≤ length out₀
  pub fuel : ℕ
  pub small : n ≤ fuel
  pub same : sets out i (shortest limit (suc fuel) (int neg n)) ≡ sets out₀ at (shortest_of limit (int neg n₀))
  pub ends : i + length (shortest limit (suc fuel) (int neg n)) ≡ at + length (shortest_of limit (int neg n₀))
  pub long : length out ≡ length out₀

module _ {out₀ : List ℕ} {at : ℕ} {neg : Bool} {n₀ limit : ℕ} {out : List ℕ} {n i : ℕ} (w : Writing out₀ at neg n₀ limit out n i) where
  pub goes_on : limit ≤ n → (b : ℕ) → b ≡ 128 + low (int neg n) → Writing out₀ at neg n₀ limit (set out i b) (n / 128) (i + 1)
  goes_on h b e =
      let t = less w.fuel n (omega (arith, w.least)) w.small in
      let q : shortest limit (suc w.fuel) (int neg n) ≡ (128 + low (int neg n)) ∷ shortest limit (suc t.0) (int neg (n / 128)) =
      int-more limit w.fuel neg n h ∙ ap (λ (f : ℕ). (128 + low (int neg n)) ∷ shortest limit f (int neg (n / 128))) t.1 in
      record {
        least = w.least;
        fits = w.fits;
        fuel = t.0;
        small = t.2;
        same = rw (e, add-one) (rw q at w.same);
        ends = omega (arith, w.ends, ap length q);
        long = length-set out i b ∙ w.long;
      }

  -- what is left tells by its length whether one byte holds it
  pub not_last : i + 1 < at + length (shortest_of limit (int neg n₀)) → limit ≤ n
  not_last h = either limit n (λ t. t) (λ t. absurd (omega (arith, w.ends, ap length (int-one limit w.fuel neg n t))))

  pub is_last : i + 1 ≡ at + length (shortest_of limit (int neg n₀)) → n < limit
  is_last h =
      either limit n
      (λ t.
      let g = less w.fuel n (omega (arith, w.least)) w.small in
      let q : shortest limit (suc w.fuel) (int neg n) ≡ (128 + low (int neg n)) ∷ shortest limit (suc g.0) (int neg (n / 128)) =
      int-more limit w.fuel neg n t ∙ ap (λ (f : ℕ). (128 + low (int neg n)) ∷ shortest limit f (int neg (n / 128))) g.1 in
      absurd (omega (arith, w.ends, ap length q, short-some limit g.0 (int neg (n / 128)))))
      (λ t. t)

  pub written : n < limit → (b : ℕ) → b ≡ low (int neg n) → set out i b ≡ sets out₀ at (shortest_of limit (int neg n₀))
  written h b e = rw e (rw (int-one limit w.fuel neg n h) at w.same)

pub record Counting (limit n₀ n bytes : ℕ) : Type 0 where
  pub least : 64 ≤ limit
  pub fuel : ℕ
  pub small : n ≤ fuel
  pub fewer : bytes + n ≤ 1 + n₀
  pub ends : (neg : Bool) → bytes + length (shortest limit (suc fuel) (int neg n)) ≡ 1 + length (shortest_of limit (int neg n₀))

module _ {limit n₀ n bytes : ℕ} (w : Counting limit n₀ n bytes) where
  pub counts-on : limit ≤ n → Counting limit n₀ (n / 128) (bytes + 1)
  counts-on h =
      let t = less w.fuel n (omega (arith, w.least)) w.small in
      record {
        least = w.least;
        fuel = t.0;
        small = t.2;
        fewer = omega (arith, w.fewer, w.least);
        ends =
            λ neg.
            let q : shortest limit (suc w.fuel) (int neg n) ≡ (128 + low (int neg n)) ∷ shortest limit (suc t.0) (int neg (n / 128)) =
            int-more limit w.fuel neg n h ∙ ap (λ (f : ℕ). (128 + low (int neg n)) ∷ shortest limit f (int neg (n / 128))) t.1 in
            omega (arith, w.ends neg, ap length q);
      }

  pub counted : n < limit → (neg : Bool) → bytes ≡ length (shortest_of limit (int neg n₀))
  counted h neg = omega (arith, w.ends neg, ap length (int-one limit w.fuel neg n h))

-- the bytes of an integer by its sign and magnitude are those of the bits that hold it
pub form-of : (sign s : Bool) (N v : ℕ) (neg : Bool) (n limit : ℕ) → int neg n ≡ integer sign N v → s ≡ sign → limit ≡ limit_of s
    → shortest_of limit (int neg n) ≡ bytes_of sign N v
unfolding bytes_of
form-of sign s N v neg n limit e p q = rw (e, q, p) refl
