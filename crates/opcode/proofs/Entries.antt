-- The parts of an entry do not reach into each other: each says what the row does.
use mathlib.Core.Path.{◌≡◌}
use Prim.Native.Nat.{ℕ}
use native.Mathlib.Omega.{arith}
use Rattle.opcode.specs.Table.{Row}
use Rattle.opcode.specs.Immediate.{moved_by, lanes_of}
use Rattle.opcode.specs.Number.{class_of, group_of, effect_of}
use Rattle.opcode.specs.Entry.{entry_of, class_in, moved_in, lanes_in, group_in, effect_in}
use Rattle.opcode.proofs.Classes.{row-class-small, row-moved-small, row-lanes-small}
use Rattle.opcode.proofs.Groups.{row-group-small}

-- e is the entry of the row
module _ (r : Row) {e : ℕ} (is : e ≡ entry_of r) where
  pub class-in : class_in e ≡ class_of r
  class-in = omega (arith, is, row-class-small r)

  pub moved_in_lem : moved_in e ≡ moved_by r
  moved_in_lem = omega (arith, is, row-class-small r, row-moved-small r)

  pub lanes-in : lanes_in e ≡ lanes_of r
  lanes-in = omega (arith, is, row-class-small r, row-moved-small r, row-lanes-small r)

  pub group-in : group_in e ≡ group_of r
  group-in = omega (arith, is, row-class-small r, row-moved-small r, row-lanes-small r, row-group-small r)

  pub effect-in : effect_in e ≡ effect_of r
  effect-in = omega (arith, is, row-class-small r, row-moved-small r, row-lanes-small r, row-group-small r)
