-- The digits of its size, and before them the sign of a number below zero.
use native.Mathlib.Omega.{arith}
use Rattle.text.specs.Append.{no_room}
use Rattle.text.specs.Decimal.{minus}
use Rattle.text.proofs.Decimals.{decimal-some, spelled-some}
use Rattle.text.proofs.Signs.{no_sign, sign, before, none_before}
use Rattle.text.proofs.signed.Goals as goal

pub returns-then-n-ge0 : goal.returns-then-n-ge0
returns-then-n-ge0 c = rw (no_sign c.args.n c.ranges.n c.unsigned_abs-size.result c.unsigned_abs-size.ensures.value c.if-n-ge0.true) at c.decimal.ensures

pub returns-then-out-at : goal.returns-then-out-at
returns-then-out-at c = no_room (omega (arith, spelled-some c.args.n))

pub returns-then-end-first : goal.returns-then-end-first
returns-then-end-first c =
    rw (sign c.args.n c.ranges.n c.unsigned_abs-size.result c.unsigned_abs-size.ensures.value c.if-n-ge0.false) at
    (none_before minus (decimal-some _) c.decimal-end.ensures c.if-end-first.true)

pub returns : goal.returns
returns c =
    rw (sign c.args.n c.ranges.n c.unsigned_abs-size.result c.unsigned_abs-size.ensures.value c.if-n-ge0.false) at
    (before minus c.decimal-end.ensures c.if-end-first.false)
