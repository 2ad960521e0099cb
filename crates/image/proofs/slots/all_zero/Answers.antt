use Prim.Native.Nat.{◌+◌}
use mathlib.Core.Path.{sym, subst}
use native.Mathlib.Omega.{arith}
use lib.ListN.{length}
use Rattle.image.proofs.Form.{zeros-none, Looked, clear, looked-zero, looked-other, looked-all}
use Rattle.image.proofs.slots.all_zero.Goals as goal
use Rattle.image.proofs.slots.all_zero.Goals.{then-b-ne0, else-b-ne0}

pub loop-b-init : goal.loop-b-init
loop-b-init c = clear (omega arith) (zeros-none c.args.bytes.now 0)

pub loop-b-preserved : goal.loop-b-preserved
loop-b-preserved c =
    let bs = c.args.bytes.now in
    let known = Looked bs 0 (length bs) (c.loop-b.b-index + 1) in
    elim c.if-b-ne0.branch [
      | then-b-ne0 w ↦ subst known (sym w.clear-is) (looked-other bs c.loop-b.invariant (omega arith) w.if-b-ne0.true)
      | else-b-ne0 w ↦ subst known (sym w.clear-is) (looked-zero bs c.loop-b.invariant w.if-b-ne0.false)
    ]

pub returns : goal.returns
returns c = looked-all c.args.bytes.now c.loop-b.invariant (omega arith)
