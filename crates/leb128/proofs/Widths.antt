-- An integer of N bits and its bits: each gives the other back.
use Prim.Native.Nat.{ℕ, suc, ◌-◌, ◌<◌, ◌^◌}
use mathlib.Core.Path.{◌≡◌, refl, ap}
use mathlib.Core.Bool.{Bool, true, false}
use native.Mathlib.Omega.{arith}
use lib.Dec.{ltb}
use lib.IntN.{ℤ, pos, negsuc}
use lib.Signed.{mag}
use borrow.Author.Tests.{lt-ltb, le-ltb, ltb-true, ltb-false}
use Rattle.leb128.specs.Bits.{integer, bits}
use Rattle.leb128.proofs.Arith.{split, pow-half}
use Rattle.leb128.proofs.Grammars.{Ranged}

module _ (N : ℕ) (h : 0 < N) where
  signed_back : (z : ℤ) → mag z < 2 ^ (N - 1) → (integer true N (bits N z) ≡ z) × (bits N z < 2 ^ N)
  signed_back (pos n) r = (rw (lt-ltb n (2 ^ (N - 1)) r), omega (arith, pow-half N h))
  signed_back (negsuc n) r =
      let p = pow-half N h in
      let d : 2 ^ N - suc (2 ^ N - suc n) ≡ n = omega arith in
      (rw (le-ltb (2 ^ N - suc n) (2 ^ (N - 1)) (omega arith)) (ap negsuc d), omega arith)

  pub integer-back : (sign : Bool) (z : ℤ) → Ranged sign N z → (integer sign N (bits N z) ≡ z) × (bits N z < 2 ^ N)
  integer-back false (pos n) r = (refl, r)
  integer-back false (negsuc n) r = absurd r
  integer-back true z r = signed_back z r

  pub bits_back : (sign : Bool) (v : ℕ) → v < 2 ^ N → Ranged sign N (integer sign N v) × (bits N (integer sign N v) ≡ v)
  bits_back false v l = (l, refl)
  bits_back true v l =
      split (λ (z : ℤ). (mag z < 2 ^ (N - 1)) × (bits N z ≡ v)) (ltb v (2 ^ (N - 1)))
      (λ e. (ltb-true v (2 ^ (N - 1)) e, refl))
      (λ e. let p = pow-half N h in let m = ltb-false v (2 ^ (N - 1)) e in (omega arith, omega arith))
