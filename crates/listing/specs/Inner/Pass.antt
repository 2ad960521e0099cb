-- Inner: what a pass over all lines leaves.
use Rattle.std.specs.Prelude.{ℕ, ◌≤◌, ◌≡◌, List, length}
use Rattle.std.proofs.lemmas.List.Edits.{sets}
use Rattle.listing.specs.Listing.{Listing}

pub record Passed (s out : List ℕ) (r : ℕ) (out' : List ℕ) : Type 0 where
  pub text : List ℕ
  pub listing : Listing s text
  pub counted : r ≡ length text
  pub written : length text ≤ length out → out' ≡ sets out 0 text
