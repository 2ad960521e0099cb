-- The lanes of two vectors, one after the other.
use mathlib.Core.Path.{◌≡◌}
use mathlib.Core.List.{List, ◌++◌}
use Prim.Native.Nat.{ℕ, ◌+◌, ◌*◌, ◌-◌, ◌≤◌, ◌<◌}
use native.Mathlib.Nat.{mul_comm, mul-le-mul_left, mul-add, mul-one}
use native.Mathlib.Omega.{arith}
use mir.Syntax.{Width}
use mir.Val.{bits}
use Rattle.operation.specs.Vector.{lane, Sixteen}
use Rattle.operation.proofs.Laws.Lane.{lane_first, lane-second}

module _ (w : Width) (m : ℕ) (a b : List ℕ) (i : ℕ) (whole : m * bits w ≡ 128) (s : Sixteen a) where
  pub lane-of-first : i < m → lane w (a ++ b) i ≡ lane w a i
  lane-of-first l =
      let long = s.long in let l' : i + 1 ≤ m = omega arith in
      lane_first w a b i (omega (arith, mul-le-mul_left (bits w) l', mul-add (bits w) i 1, mul-one (bits w), mul_comm m (bits w)))

  pub lane-of-second : m ≤ i → lane w (a ++ b) i ≡ lane w b (i - m)
  lane-of-second l = let long = s.long in lane-second w m a b i s.bytes (omega (arith, mul_comm m (bits w))) l
