-- The low half of a number is all that a lane of 32 bits or fewer takes of it.
use mathlib.Core.Path.{◌≡◌, ap}
use mathlib.Core.Bool.{cond}
use mathlib.Core.List.{List}
use Prim.Native.Nat.{ℕ, ◌%◌, ◌^◌, ◌≤◌}
use native.Mathlib.Omega.{arith}
use lib.Dec.{eqb}
use lib.IntN.{pos}
use mir.Syntax.{Width, w8, w16, w32, w64, w128}
use mir.Val.{bits}
use Rattle.scalar.specs.Scalar.{wrap}
use Rattle.operation.specs.Vector.{lane, vec}
use Rattle.operation.specs.Op.{splat, replaced}

module _ (w : Width) (narrow : bits w ≤ 32) (x : ℕ) where
  low_half : wrap w (pos (x % 2 ^ 32)) ≡ wrap w (pos x)
  low_half = by w narrow
    where
      by : (w : Width) → bits w ≤ 32 → wrap w (pos (x % 2 ^ 32)) ≡ wrap w (pos x)
      by w8 h = omega arith
      by w16 h = omega arith
      by w32 h = omega arith
      by w64 h = let wrong : ⊥ = omega arith in absurd wrong
      by w128 h = let wrong : ⊥ = omega arith in absurd wrong

  pub splat-low : splat w (x % 2 ^ 32) ≡ splat w x
  splat-low = ap (λ (y : ℕ). vec w (λ n. y)) low_half

  pub replaced-low : (a : List ℕ) (i : ℕ) → replaced w a i (x % 2 ^ 32) ≡ replaced w a i x
  replaced-low a i = ap (λ (y : ℕ). vec w (λ n. cond (eqb n i) y (lane w a n))) low_half
