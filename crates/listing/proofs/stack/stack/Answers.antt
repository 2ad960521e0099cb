use Prim.Native.Nat.{◌<◌}
use native.Mathlib.Omega.{arith}
use lib.Seq.{length-take-le, get_or-take}
use Rattle.listing.proofs.Parts.{stack-begins, stack-more, stack-closed}
use Rattle.listing.proofs.stack.stack.Goals as goal

pub loop-k-init : goal.loop-k-init
loop-k-init c = stack-begins c.requires c.push-to.ensures

pub loop-k-preserved : goal.loop-k-preserved
loop-k-preserved c =
    let a = c.args in
    let k = c.loop-k.k in
    let h : k < a.depth = omega (arith, length-take-le a.depth a.kinds.now c.requires.0) in
    stack-more c.loop-k.invariant h (rw (get_or-take a.depth a.kinds.now k 0 h) at c.next-to.ensures)

pub returns : goal.returns
returns c =
    let a = c.args in
    stack-closed c.loop-k.invariant (omega (arith, length-take-le a.depth a.kinds.now c.requires.0)) c.push-to.ensures c.requires.1 c.push.ensures
