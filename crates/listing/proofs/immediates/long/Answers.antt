-- The bits of an s64 as an integer.
use Rattle.listing.proofs.Shown.{long-told}
use Rattle.listing.proofs.immediates.long.Goals as goal

pub returns : goal.returns
returns c = long-told c.args.v c.ranges.v c.cast_signed.ensures c.push-to.ensures c.signed.ensures c.requires
