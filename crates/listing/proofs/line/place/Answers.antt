-- The digits, and a blank.
use native.Mathlib.Omega.{arith}
use Rattle.text.proofs.Decimals.{decimal-short}
use Rattle.listing.proofs.Parts.{one_byte, adds-both}
use Rattle.listing.proofs.line.place.Goals as goal

pub returns : goal.returns
returns c =
    adds-both {a = 20} (record { short = decimal-short c.args.at c.ranges.at.fits; appends = c.decimal-to.ensures })
    (one_byte c.push.ensures) (omega (arith, c.requires))
