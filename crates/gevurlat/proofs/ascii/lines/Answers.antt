-- A line for each result passed stands after the text.
use Rattle.std.proofs.Common.{◌+◌, ◌*◌, ◌-◌}
use native.Mathlib.Omega.{arith}
use lib.ListN.{drop, length-take}
use Rattle.text.proofs.Appending.{room-left, begins, goes_on}
use Rattle.gevurlat.proofs.Lines.{lines_none, lines_more, lines-length}
use Rattle.gevurlat.proofs.ascii.lines.Goals as goal

pub loop-n-init : goal.loop-n-init
loop-n-init c = begins _ _ _ _ (lines_none _) (omega arith)

pub line-to-requires : goal.line-to-requires
line-to-requires c =
    let l = c.loop-n in
    let xs = c.args.results.now in
    let h = c.loop-n-test.true in
    omega (
      arith,
      room-left 33 l.invariant.made (omega (arith, lines-length xs l.n (omega (arith, h)), c.requires, h)),
      length-take (16 * l.n + 16 - 16 * l.n) (drop (16 * l.n) xs),
    )

pub loop-n-preserved : goal.loop-n-preserved
loop-n-preserved c =
    let l = c.loop-n in
    let h = c.loop-n-test.true in
    goes_on l.invariant h (lines_more _ l.n (16 * l.n + 16 - 16 * l.n) (omega arith))
    (omega (arith, lines-length c.args.results.now (l.n + 1) (omega (arith, h)), c.requires, h)) c.line-to.ensures
