use mathlib.Core.Path.{refl}
use Rattle.run.proofs.Answering.{asked-first, ran-once}
use Rattle.run.proofs.run_once.Goals as goal

pub returns-then-asked-ne-DONE : goal.returns-then-asked-ne-DONE
returns-then-asked-ne-DONE c = asked-first (c.ask-asked.ensures c.args.mem.now c.args.results.now refl refl) c.if-asked-ne-DONE.true _ _

pub returns : goal.returns
returns c = ran-once c.drive.ensures refl c.drive.auto.image
