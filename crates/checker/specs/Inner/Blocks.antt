-- Inner: what a branch to an open block takes.
use Rattle.std.specs.Prelude.{ℕ, ◌≤◌, ◌≡◌, List, map, reverse, length}
use Rattle.limits.specs.Limits.{result_limit}
use Rattle.operation.specs.Vector.{number}
use Rattle.opcode.specs.Kind.{Kind, kind_byte}
use Rattle.rules.specs.Typing.{Frame, branch_kinds, Target}

-- the kinds as one number, the top one first
abbrev pub top_first : List Kind → ℕ
top_first ks = number (map kind_byte (reverse ks))

-- a branch of this number goes to a block that takes these kinds
pub record Labelled (fs : List Frame) (n takes : ℕ) : Type 0 where
  pub target : Frame
  pub label : Target fs n target
  pub takes_is : top_first (branch_kinds target) ≡ takes
  pub few : length (branch_kinds target) ≤ result_limit
