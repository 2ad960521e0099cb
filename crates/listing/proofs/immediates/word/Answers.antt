-- The bits of an s32 as an integer.
use Rattle.listing.proofs.Shown.{word-told}
use Rattle.listing.proofs.immediates.word.Goals as goal

pub returns : goal.returns
returns c = word-told c.args.v c.ranges.v c.cast_signed.ensures c.push-to.ensures (rw c.from.ensures at c.signed.ensures) c.requires
