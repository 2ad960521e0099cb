use mathlib.Core.Path.{refl}
use native.Mathlib.Omega.{arith}
use Rattle.listing.proofs.Following.{onward}
use Rattle.listing.proofs.Passing.{begins, passes, goes_on}
use Rattle.listing.proofs.pass.Goals as goal

pub loop-at-init : goal.loop-at-init
loop-at-init c = begins c.requires _ _ _ _ c.start-at.ensures c.outset-state.ensures refl refl refl

pub loop-at-smaller : goal.loop-at-smaller
loop-at-smaller c =
    let w = c.next_line-n in
    omega
    (arith, onward c.loop-at.invariant.follows c.loop-at-test.true w.ensures w.auto.text, c.loop-at-test.true)

pub loop-at-preserved : goal.loop-at-preserved
loop-at-preserved c =
    let w = c.next_line-n in
    goes_on c.loop-at.invariant c.loop-at-test.true w.ensures w.auto.text w.auto.kinds w.auto.blocks
    c.put.ensures

pub returns : goal.returns
returns c = passes c.loop-at.invariant c.loop-at-test.false
