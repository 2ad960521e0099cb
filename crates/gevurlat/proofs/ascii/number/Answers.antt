-- The digits, and the byte after them.
use native.Mathlib.Omega.{arith}
use Rattle.text.proofs.Appending.{both-appended}
use Rattle.text.proofs.Decimals.{decimal-short}
use Rattle.gevurlat.proofs.ascii.number.Goals as goal

pub returns : goal.returns
returns c =
    both-appended c.decimal-to.ensures c.push.ensures (omega (arith, decimal-short c.args.n c.ranges.n.fits, c.requires))
