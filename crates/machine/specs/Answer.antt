-- What `bounds` answers, in the numbers of the card (01, "Numbers on the inspector's card"): DONE where the bytes of an access are in the memory,
-- else TRAP and the first address out of reach.
use Rattle.std.specs.Prelude.{ℕ, Ok, Err}
use Rattle.card.specs.Card.{DONE, TRAP}
use Rattle.std.specs.declared.result.Result.{Result}
use Rattle.machine.specs.declared.access.PastEnd.{PastEnd}

pub record Reach : Type 0 where
  pub code : ℕ
  pub address : ℕ

abbrev pub in_reach : Reach
in_reach = record { code = DONE; address = 0 }

abbrev pub out_of_reach : ℕ → Reach
out_of_reach a = record { code = TRAP; address = a }

abbrev pub told_bounds : Result (Unit {0}) PastEnd → Reach
told_bounds (Ok x) = in_reach
told_bounds (Err e) = out_of_reach e.address
