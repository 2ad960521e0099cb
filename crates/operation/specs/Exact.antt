-- Two sentences of 01, "Lane rules", as integers: extended products are exact and never leave their lane; only four inputs of -32768 wrap in a dot
-- product. They are shown in proofs/Exact.antt.
use Rattle.std.specs.Prelude.{ℕ, ◌+◌, ◌*◌, ◌≡◌, List, ℤ, pos, neg_ℤ, ◌+ℤ◌, ◌*ℤ◌}
use Rattle.std.specs.Int.{Width}
use Rattle.scalar.specs.Scalar.{Sign, S, value}
use Rattle.operation.specs.Shape.{i16x8, half}
use Rattle.operation.specs.Vector.{lane}
use Rattle.operation.specs.Op.{Half, from}

-- a lane as the integer that it is read as
abbrev pub lane_value : Sign → Width → List ℕ → ℕ → ℤ
lane_value s w v n = value s w (lane w v n)

-- the product of lanes n of two halves
abbrev pub exact_product : Half → Sign → Width → List ℕ → List ℕ → ℕ → ℤ
exact_product h s w a b n = lane_value s (half w) a (from h w + n) *ℤ lane_value s (half w) b (from h w + n)

-- the sum of two products: lanes 2n, and lanes 2n + 1
abbrev pub exact_sum : List ℕ → List ℕ → ℕ → ℤ
exact_sum a b n =
    lane_value S i16x8 a (2 * n) *ℤ lane_value S i16x8 b (2 * n) +ℤ lane_value S i16x8 a (2 * n + 1) *ℤ lane_value S i16x8 b (2 * n + 1)

-- all four inputs of a dot lane are -32768
pub record FourLeast (a b : List ℕ) (n : ℕ) : Type 0 where
  pub first_a : lane_value S i16x8 a (2 * n) ≡ neg_ℤ (pos 32768)
  pub first_b : lane_value S i16x8 b (2 * n) ≡ neg_ℤ (pos 32768)
  pub second_a : lane_value S i16x8 a (2 * n + 1) ≡ neg_ℤ (pos 32768)
  pub second_b : lane_value S i16x8 b (2 * n + 1) ≡ neg_ℤ (pos 32768)
