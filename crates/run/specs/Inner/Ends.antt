-- Inner: the ends of blocks that are kept for the run. A word holds the place where a body begins, times the file's limit, and the place after its
-- `end`.
use Rattle.std.specs.Prelude.{ℕ, ◌/◌, ◌%◌, ◌<◌, ◌≡◌, List, length, get_or}
use Rattle.std.proofs.Math.Option.{some}
use Rattle.limits.specs.Limits.{file_limit}
use Rattle.standard.specs.Closing.{close}
use Rattle.standard.specs.Inner.{ClosesIn}

-- how many words
abbrev pub end_count : ℕ
end_count = 64

abbrev pub body_in : ℕ → ℕ
body_in w = w / file_limit

abbrev pub end_in : ℕ → ℕ
end_in w = w % file_limit

-- each word is empty or true
pub record Kept (s words : List ℕ) : Type 0 where
  pub long : length words ≡ end_count
  pub each : (k : ℕ) → 0 < body_in (get_or words k 0) → close (get_or s 3 0) s (body_in (get_or words k 0)) ≡ some (end_in (get_or words k 0))

-- a block whose body begins here has an end, with room for so many blocks inside it
pub record Closable (s : List ℕ) (body room : ℕ) : Type 0 where
  pub place : ℕ
  pub closes : ClosesIn (get_or s 3 0) s room body place
  pub late : 0 < body
  pub body_small : body < file_limit
  pub place_small : place < file_limit
