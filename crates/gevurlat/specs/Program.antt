-- What the program prints of any bytes (01, "Numbers on the inspector's card", last paragraph).
use Rattle.std.specs.Prelude.{ℕ, ◌*◌, min, List, [], get_or, replicate}
use Rattle.std.proofs.Math.Option.{none}
use Rattle.limits.specs.Limits.{result_limit, slot}
use Rattle.run.specs.Meter.{Left}
use Rattle.run.specs.Run.{Runs}
use Rattle.gevurlat.specs.Text.{Shown}

abbrev pub budget : ℕ
budget = 1000000

-- the memory's bytes: the program's own number, which does not move with the limit
abbrev pub memory_bytes : ℕ
memory_bytes = 65536

unfoldable pub zeros : ℕ → List ℕ
zeros n = replicate n 0

-- the results that a strip declares, if it passes the check; of any other nothing is written
abbrev pub result_count : List ℕ → ℕ
result_count s = min (get_or s 7 0) result_limit

-- run with no arguments, this memory, this buffer for the results and none for an image
pub record PrintsFrom (s memory results text : List ℕ) : Type 0 where
  pub left : Left
  pub ran : Runs s [] memory results none budget left
  pub shown : Shown left.answer left.results text

abbrev pub Prints : List ℕ → List ℕ → Type 0
Prints s text = PrintsFrom s (zeros memory_bytes) (zeros (slot * result_count s)) text
