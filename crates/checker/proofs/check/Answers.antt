-- What the inspection says.
use Rattle.rules.specs.Breach.{valid, breach}
use Rattle.checker.proofs.Counted.{checked}
use Rattle.checker.proofs.check.Goals as goal

pub returns-in-Ok : goal.returns-in-Ok
returns-in-Ok c = checked c.answer.ensures (valid c.in-Ok.ensures)

pub returns-in-Err : goal.returns-in-Err
returns-in-Err c = checked c.answer-in-Err.ensures (breach c.in-Err.ensures)
