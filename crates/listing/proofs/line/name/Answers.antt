use mathlib.Core.Path.{◌∙◌}
use Rattle.mnemonic.proofs.Ids.{short}
use Rattle.listing.proofs.line.name.Goals as goal

pub returns : goal.returns
returns c = record { short = short c.args.id; appends = rw (← (c.as_bytes.ensures.value ∙ c.name.ensures)) c.put.ensures }
