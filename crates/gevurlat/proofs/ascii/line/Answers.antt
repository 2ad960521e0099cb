-- The bytes passed stand after the text, two digits each.
use Rattle.std.proofs.Common.{◌+◌}
use native.Mathlib.Omega.{arith}
use lib.Seq.{take-length}
use Rattle.text.proofs.Appending.{room-left, both-appended, begins, goes_on, ends}
use Rattle.gevurlat.proofs.Lines.{hexadecimal-length, hexadecimal-none, hexadecimal-more, hexadecimal-place}
use Rattle.gevurlat.proofs.ascii.line.Goals as goal

pub loop-b-init : goal.loop-b-init
loop-b-init c = begins _ _ _ _ hexadecimal-none (omega arith)

pub loop-b-preserved : goal.loop-b-preserved
loop-b-preserved c =
    let bytes = c.args.bytes.now in
    let l = c.loop-b in
    let h = c.loop-b-test.true in
    goes_on l.invariant h (hexadecimal-more bytes l.b-index _ _ h c.digit.ensures c.digit-in-loop-b.ensures)
    (omega (arith, hexadecimal-place bytes (l.b-index + 1) (omega (arith, h)), c.requires, h))
    (both-appended c.push-to.ensures c.push-to-in-loop-b.ensures
    (room-left 2 l.invariant.made (omega (arith, hexadecimal-place bytes l.b-index l.invariant.most, c.requires, h))))

pub returns : goal.returns
returns c =
    both-appended (rw take-length at (ends c.loop-b.invariant c.loop-b-test.false)) c.push.ensures
    (omega (arith, hexadecimal-length c.args.bytes.now, c.requires))
