-- No sum leaves the word; what they are is Laws.Ones.
use Prim.Native.Nat.{ℕ, ◌+◌, ◌-◌, ◌/◌, ◌^◌}
use mathlib.Core.Path.{refl}
use native.Mathlib.Nat.{le_trans}
use native.Mathlib.Omega.{arith}
use lib.Bits.{bit_and, and_le_l, and_le_r}
use lib.Pow.{shr_le}
use Rattle.lane.proofs.Laws.Ones.{ones-word}
use Rattle.lane.proofs.lanes.counting.ones_of_bytes.Goals as goal

abbrev threes : ℕ
threes = 0x3333_3333_3333_3333

abbrev word-twos : ℕ → ℕ
word-twos x = x - bit_and (x / 2 ^ 1) 0x5555_5555_5555_5555

abbrev word-fours : ℕ → ℕ
word-fours x = bit_and (word-twos x) threes + bit_and (word-twos x / 2 ^ 2) threes

pub overflow_sub-twos : goal.overflow_sub-twos
overflow_sub-twos c = le_trans (and_le_l (c.args.x / 2 ^ 1) 0x5555_5555_5555_5555) (shr_le c.args.x 1)

pub overflow_add-fours : goal.overflow_add-fours
overflow_add-fours c = omega (arith, and_le_r (word-twos c.args.x) threes, and_le_r (word-twos c.args.x / 2 ^ 2) threes)

pub overflow_add-result : goal.overflow_add-result
overflow_add-result c = omega (arith, and_le_r (word-twos c.args.x) threes, and_le_r (word-twos c.args.x / 2 ^ 2) threes)

pub returns : goal.returns
returns c = ones-word c.args.x (word-twos c.args.x) (word-fours c.args.x) c.ranges.x.fits refl refl
