use mathlib.Core.Path.{refl}
use Rattle.run.proofs.Answering.{asked-first, no-image, ran}
use Rattle.run.proofs.run.Goals as goal

pub returns-then-asked-ne-DONE : goal.returns-then-asked-ne-DONE
returns-then-asked-ne-DONE c = asked-first (c.ask-asked.ensures c.args.mem.now c.args.results.now refl refl) c.if-asked-ne-DONE.true _ _

pub returns-then-image-lt-BYTES : goal.returns-then-image-lt-BYTES
returns-then-image-lt-BYTES c = no-image (c.ask-asked.ensures c.args.mem.now c.args.results.now refl refl) c.if-asked-ne-DONE.false _ c.if-image-lt-BYTES.true c.refused.ensures _

pub returns : goal.returns
returns c = ran c.drive.ensures c.if-image-lt-BYTES.false c.drive.auto.image
