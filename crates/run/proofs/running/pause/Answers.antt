use native.Mathlib.Omega.{arith}
use mathlib.Core.Path.{refl, sym, ◌∙◌}
use lib.Seq.{length-take-le}
use Rattle.run.proofs.Pausing.{pictured-spent, pictured-else}
use Rattle.run.proofs.running.pause.Goals as goal

pub overflow_mul-values : goal.overflow_mul-values
overflow_mul-values c = omega (arith, c.requires.3 c.if-stop-eq-BUDGET.true)

pub slice_bounds-write-end-then-stop-eq-BUDGET : goal.slice_bounds-write-end-then-stop-eq-BUDGET
slice_bounds-write-end-then-stop-eq-BUDGET c = sym (length-take-le _ c.args.stack.now (omega (arith, c.requires.2, c.requires.3 c.if-stop-eq-BUDGET.true)))

pub returns-then-stop-eq-BUDGET : goal.returns-then-stop-eq-BUDGET
returns-then-stop-eq-BUDGET c = (refl, refl, refl, c.write.ensures ∙ sym (pictured-spent _ _ _ _ _ _ c.if-stop-eq-BUDGET.true))

pub returns-else-stop-eq-BUDGET : goal.returns-else-stop-eq-BUDGET
returns-else-stop-eq-BUDGET c = (refl, refl, refl, sym (pictured-else _ _ _ _ _ _ c.if-stop-eq-BUDGET.false))
