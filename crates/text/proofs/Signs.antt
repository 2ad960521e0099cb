-- A sign before the digits.
use Prim.Native.Nat.{ℕ, suc, ◌+◌, ◌≤◌, ◌<◌}
use mathlib.Core.Path.{◌≡◌, refl, ap, sym, ◌∙◌, subst}
use mathlib.Core.Bool.{true, false}
use mathlib.Core.List.{List, [], ◌∷◌}
use native.Mathlib.Omega.{arith}
use borrow.Author.Tests.{leb-false}
use lib.Dec.{T}
use lib.IntN.{ℤ, pos, negsuc, nat_abs}
use lib.ListN.{length, set}
use lib.Seq.{sets, set_comm}
use lib.Signed.{le_z}
use mir.Syntax.{w64}
use mir.Val.{SFits, to_z, of_z}
use mir.ValLaws.{to_z-of_z}
use Rattle.text.specs.Append.{Appends, fits, no_room}
use Rattle.text.specs.Decimal.{decimal, minus, spelled}
use Rattle.text.proofs.Appending.{with-room}

plain : (z : ℤ) → le_z (pos 0) z ≡ true → decimal (nat_abs z) ≡ spelled z
unfolding spelled
plain (pos n) t = refl
plain (negsuc n) t = absurd (subst T (sym t) tt)

turned : (z : ℤ) → le_z (pos 0) z ≡ false → minus ∷ decimal (nat_abs z) ≡ spelled z
unfolding spelled
turned (pos n) t = absurd (let none : ⊥ = omega (arith, leb-false 0 n t) in none)
turned (negsuc n) t = refl

-- a number that a local holds, and its size
module _ (z : ℤ) (f : SFits w64 z) (n : ℕ) (e : n ≡ nat_abs (to_z w64 (of_z w64 z))) where
  size : n ≡ nat_abs z
  size = e ∙ ap nat_abs (to_z-of_z w64 z f)

  pub no_sign : le_z (pos 0) (to_z w64 (of_z w64 z)) ≡ true → decimal n ≡ spelled z
  no_sign t = ap decimal size ∙ plain z (rw (to_z-of_z w64 z f) at t)

  pub sign : le_z (pos 0) (to_z w64 (of_z w64 z)) ≡ false → minus ∷ decimal n ≡ spelled z
  sign t = ap (λ (k : ℕ). minus ∷ decimal k) size ∙ turned z (rw (to_z-of_z w64 z f) at t)

set-sets : (vs out : List ℕ) (i j b : ℕ) → i < j → set (sets out j vs) i b ≡ sets (set out i b) j vs
set-sets [] out i j b h = refl
set-sets (v ∷ vs) out i j b h =
    set-sets vs (set out j v) i (suc j) b (omega arith) ∙ ap (λ (l : List ℕ). sets l (suc j) vs) (set_comm out j i v b (λ e. omega arith))

-- the byte before a text that was written, and none before one that was not
pub before : {xs out : List ℕ} {at : ℕ} {out' : List ℕ} {n : ℕ} (b : ℕ) → Appends xs out (at + 1) n out' → (n ≡ at + 1 → ⊥) → Appends (b ∷ xs) out at n (set out' at b)
before {xs} {out} {at = at} b (fits h) f =
    with-room (omega arith) (omega arith) (set-sets xs out at (at + 1) b (omega arith) ∙ ap (λ (k : ℕ). sets (set out at b) k xs) (omega arith))
before b (no_room h) f = absurd (f refl)

pub none_before : {xs out : List ℕ} {at : ℕ} {out' : List ℕ} {n : ℕ} (b : ℕ) → 1 ≤ length xs → Appends xs out (at + 1) n out' → n ≡ at + 1 → Appends (b ∷ xs) out at at out'
none_before b some (fits h) e = absurd (let none : ⊥ = omega arith in none)
none_before b some (no_room h) e = no_room (omega arith)
