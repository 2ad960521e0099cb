-- A turn prints one line; what is printed lies in the array.
use Rattle.std.proofs.Common.{refl, arith}
use Rattle.listing.proofs.Following.{follow-begins, onward, follow-on}
use Rattle.lister.proofs.lines.print.Goals as goal

pub loop-at-init : goal.loop-at-init
loop-at-init g c = follow-begins c.requires _ _ _ c.start-at.ensures c.outset-state.ensures refl refl refl

pub loop-at-smaller : goal.loop-at-smaller
loop-at-smaller g c =
    let w = c.next_line-n in
    omega (arith, onward c.loop-at.invariant c.loop-at-test.true w.ensures w.auto.text, c.loop-at-test.true)

pub loop-at-preserved : goal.loop-at-preserved
loop-at-preserved g c =
    let w = c.next_line-n in
    follow-on c.loop-at.invariant c.loop-at-test.true w.ensures w.auto.text w.auto.kinds w.auto.blocks
