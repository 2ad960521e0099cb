-- Inner: a lane written into bytes.
use Rattle.std.specs.Prelude.{ℕ, ◌+◌, ◌*◌, ◌≡◌, List, ◌++◌, take, drop}
use Rattle.std.specs.Int.{Width}
use mir.Val.{bytes}
use Rattle.operation.specs.Vector.{le, Sixteen}

-- v with the k bytes of x at lane n
unfoldable pub put : ℕ → List ℕ → ℕ → ℕ → List ℕ
put k v n x = take (n * k) v ++ (le k x ++ drop (n * k + k) v)

-- what a write of x at lane n of width w leaves
pub record Wrote (w : Width) (v : List ℕ) (n x : ℕ) (v' : List ℕ) : Type 0 where
  pub sixteen : Sixteen v'
  pub same : v' ≡ put (bytes w) v n x
