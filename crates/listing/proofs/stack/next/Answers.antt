-- A blank before all but the first.
use Rattle.listing.proofs.Parts.{later-next}
use Rattle.listing.proofs.stack.next.Goals as goal

pub returns : goal.returns
returns c = later-next c.args.k c.if-k-eq0.false c.push-to.ensures c.kind-2.ensures c.requires
