-- A blank, and the digits after it.
use Rattle.listing.proofs.Shown.{number-told}
use Rattle.listing.proofs.immediates.number.Goals as goal

pub returns : goal.returns
returns c = number-told c.ranges.n.fits c.push-to.ensures c.decimal.ensures c.requires
