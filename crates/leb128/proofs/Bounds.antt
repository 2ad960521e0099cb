-- At 32 and 64 bits: a number takes 1 to 5 bytes, or 1 to 10.
use Prim.Native.Nat.{ℕ, ◌+◌, ◌<◌, ◌≤◌, ◌^◌}
use mathlib.Core.Path.{◌≡◌, subst}
use mathlib.Core.Bool.{Bool}
use mathlib.Core.List.{List}
use native.Mathlib.Omega.{arith}
use lib.ListN.{length}
use Rattle.leb128.specs.Number.{number_of, number_at}
use Rattle.leb128.specs.Shortest.{bytes_of}
use Rattle.leb128.specs.Found.{Found, Says}
use Rattle.leb128.specs.Bytes.{bytes}
use Rattle.leb128.proofs.Exact.{says}
use Rattle.leb128.proofs.Forms.{bytes-some, bytes-few}

-- what is known of a number that was read
pub found : (sign : Bool) (N : ℕ) (s : List ℕ) (at : ℕ) → bytes s → 0 < N → (v n : ℕ) → number_at sign N s at ≡ number_of v n → Found sign N s at v n
found sign N s at b h v n e = subst (Says sign N s at) e (says sign N s at b h)

module _ (sign : Bool) (s : List ℕ) (at : ℕ) (b : bytes s) (v n : ℕ) where
  pub found-32 : number_at sign 32 s at ≡ number_of v n → (v < 2 ^ 32) × (1 ≤ n) × (n ≤ 5) × (at + n ≤ length s)
  found-32 e = let f = found sign 32 s at b (omega arith) v n e in omega (arith, f.small, f.some, f.few, f.inside)

  pub found-64 : number_at sign 64 s at ≡ number_of v n → (v < 2 ^ 64) × (1 ≤ n) × (n ≤ 10) × (at + n ≤ length s)
  found-64 e = let f = found sign 64 s at b (omega arith) v n e in omega (arith, f.small, f.some, f.few, f.inside)

module _ (sign : Bool) (v : ℕ) where
  pub form-32 : v < 2 ^ 32 → (1 ≤ length (bytes_of sign 32 v)) × (length (bytes_of sign 32 v) ≤ 5)
  form-32 l = omega (arith, bytes-some sign 32 v (omega arith) l, bytes-few sign 32 v (omega arith) l)

  pub form-64 : v < 2 ^ 64 → (1 ≤ length (bytes_of sign 64 v)) × (length (bytes_of sign 64 v) ≤ 10)
  form-64 l = omega (arith, bytes-some sign 64 v (omega arith) l, bytes-few sign 64 v (omega arith) l)
