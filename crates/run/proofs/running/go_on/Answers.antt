use native.Mathlib.Nat.{pos_of_ne-zero}
use native.Mathlib.Omega.{arith}
use mathlib.Core.Path.{refl, ap, ◌∙◌}
use lib.ListN.{length}
use Rattle.run.specs.Inner.Steps.{stops, pauses}
use Rattle.run.proofs.Driving.{not-clear, starts, spent, stacked, seen, inside, results_fit, finished, turned, bounds-fits, exec-apt, onward, strayed}
use Rattle.run.proofs.running.go_on.Goals as goal

pub loop-left-init : goal.loop-left-init
loop-left-init c = (λ v c₀ C. starts v c₀ c.args.budget C c.requires.0, c.requires.1)

pub shape_of-mem-then-left-eq0 : goal.shape_of-mem-then-left-eq0
shape_of-mem-then-left-eq0 c = (c.loop-left.invariant.0 c.requires.0.held.valid c.requires.0.held.config c.requires.0.held.carries).long

pub shape_of-results-then-left-eq0 : goal.shape_of-results-then-left-eq0
shape_of-results-then-left-eq0 c = ap length (c.loop-left.invariant.0 c.requires.0.held.valid c.requires.0.held.config c.requires.0.held.carries).untouched

pub returns-then-left-eq0 : goal.returns-then-left-eq0
returns-then-left-eq0 c = λ v c₀ C. let D = c.loop-left.invariant.0 v c₀ C in pauses refl D.config D.carries (spent D c.if-left-eq0.true)

pub turn-t-requires : goal.turn-t-requires
turn-t-requires c =
    let D = c.loop-left.invariant.0 c.requires.0.held.valid c.requires.0.held.config c.requires.0.held.carries in (
      stacked D,
      seen D c.fetch-f.result c.fetch-f.ensures c.group-group.result
          c.group-group.ensures c.turns.ensures c.if-turns.true,
      c.loop-left.invariant.1,
    )

pub put_results-requires : goal.put_results-requires
put_results-requires c = let D = c.loop-left.invariant.0 c.requires.0.held.valid c.requires.0.held.config c.requires.0.held.carries in results_fit D (c.turn-t.ensures.0 c.requires.0.held.valid D.config c.loop-left.locals c.loop-left.mem D.carries) c.if-t-eq0.true

pub overflow_sub-result : goal.overflow_sub-result
overflow_sub-result c = omega (arith, (c.loop-left.invariant.0 c.requires.0.held.valid c.requires.0.held.config c.requires.0.held.carries).within)

pub overflow_add-result : goal.overflow_add-result
overflow_add-result c =
    omega (
      arith,
      (c.loop-left.invariant.0 c.requires.0.held.valid c.requires.0.held.config c.requires.0.held.carries).within,
      pos_of_ne-zero c.if-left-eq0.false,
      c.ranges.budget,
    )

pub shape_of-mem-then-t-eq0 : goal.shape_of-mem-then-t-eq0
shape_of-mem-then-t-eq0 c = (c.loop-left.invariant.0 c.requires.0.held.valid c.requires.0.held.config c.requires.0.held.carries).long

pub shape_of-results-then-t-eq0 : goal.shape_of-results-then-t-eq0
shape_of-results-then-t-eq0 c =
    c.put_results.auto.out ∙ ap length
    (c.loop-left.invariant.0 c.requires.0.held.valid c.requires.0.held.config c.requires.0.held.carries).untouched

pub returns-then-t-eq0 : goal.returns-then-t-eq0
returns-then-t-eq0 c = λ v c₀ C. let D = c.loop-left.invariant.0 v c₀ C in stops (λ e. omega (arith, e)) (finished D (c.turn-t.ensures.0 v D.config c.loop-left.locals c.loop-left.mem D.carries) (pos_of_ne-zero c.if-left-eq0.false) c.if-t-eq0.true c.put_results.ensures)

pub overflow_sub-left : goal.overflow_sub-left
overflow_sub-left c = pos_of_ne-zero c.if-left-eq0.false

pub loop-left-smaller-then-turns : goal.loop-left-smaller-then-turns
loop-left-smaller-then-turns c = omega (arith, pos_of_ne-zero c.if-left-eq0.false)

pub loop-left-preserved-then-turns : goal.loop-left-preserved-then-turns
loop-left-preserved-then-turns c = (
  λ v c₀ C. let D = c.loop-left.invariant.0 v c₀ C in turned D
      (c.turn-t.ensures.0 v D.config c.loop-left.locals c.loop-left.mem D.carries)
      (pos_of_ne-zero c.if-left-eq0.false) c.if-t-eq0.false,
  c.turn-t.ensures.1,
)

pub bounds-requires : goal.bounds-requires
bounds-requires c = let D = c.loop-left.invariant.0 c.requires.0.held.valid c.requires.0.held.config c.requires.0.held.carries in bounds-fits D c.fetch-f.result c.fetch-f.ensures c.group-group.result c.group-group.ensures c.turns.ensures c.if-turns.false

pub exec-depth-requires : goal.exec-depth-requires
exec-depth-requires c = let D = c.loop-left.invariant.0 c.requires.0.held.valid c.requires.0.held.config c.requires.0.held.carries in exec-apt D c.fetch-f.result c.fetch-f.ensures c.group-group.result c.group-group.ensures c.turns.ensures c.if-turns.false c.bounds.result c.bounds.ensures c.in-Ok.is

pub overflow_add-at : goal.overflow_add-at
overflow_add-at c = let D = c.loop-left.invariant.0 c.requires.0.held.valid c.requires.0.held.config c.requires.0.held.carries in omega (arith, inside D c.fetch-f.result c.fetch-f.ensures)

pub overflow_sub-left-in-Ok : goal.overflow_sub-left-in-Ok
overflow_sub-left-in-Ok c = pos_of_ne-zero c.if-left-eq0.false

pub loop-left-smaller : goal.loop-left-smaller
loop-left-smaller c = omega (arith, pos_of_ne-zero c.if-left-eq0.false)

pub loop-left-preserved : goal.loop-left-preserved
loop-left-preserved c = (λ v c₀ C. let D = c.loop-left.invariant.0 v c₀ C in onward D c.fetch-f.result c.fetch-f.ensures c.group-group.result c.group-group.ensures c.turns.ensures c.if-turns.false c.bounds.result c.bounds.ensures c.in-Ok.is (pos_of_ne-zero c.if-left-eq0.false) c.exec-depth.ensures c.exec-depth.auto.mem, c.loop-left.invariant.1)

pub overflow_sub-result-in-Err : goal.overflow_sub-result-in-Err
overflow_sub-result-in-Err c = omega (arith, (c.loop-left.invariant.0 c.requires.0.held.valid c.requires.0.held.config c.requires.0.held.carries).within)

pub shape_of-mem-in-Err : goal.shape_of-mem-in-Err
shape_of-mem-in-Err c = (c.loop-left.invariant.0 c.requires.0.held.valid c.requires.0.held.config c.requires.0.held.carries).long

pub shape_of-results-in-Err : goal.shape_of-results-in-Err
shape_of-results-in-Err c = ap length (c.loop-left.invariant.0 c.requires.0.held.valid c.requires.0.held.config c.requires.0.held.carries).untouched

pub returns-in-Err : goal.returns-in-Err
returns-in-Err c =
    λ v c₀ C. let D = c.loop-left.invariant.0 v c₀ C in stops (λ e. omega (arith, e)) (strayed D c.fetch-f.result c.fetch-f.ensures
    c.group-group.result c.group-group.ensures c.turns.ensures c.if-turns.false
    c.bounds.result c.bounds.ensures (pos_of_ne-zero c.if-left-eq0.false)
    (not-clear c.in-Err.is))
