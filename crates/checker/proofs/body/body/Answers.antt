use mathlib.Core.Path.{refl, sym, ◌∙◌}
use native.Mathlib.Omega.{arith}
use borrow.Author.Rules.{rules}
use Rattle.checker.proofs.Choices.{straight-judges, straight-other, as-turn}
use Rattle.checker.proofs.Goings.{refuses, moves, at-end, ready, breaks}
use Rattle.checker.proofs.Fronts.{broken}
use Rattle.checker.proofs.Comings.{toward-first, noted-now, ended-there, room_in, toward-in, toward-on}
use Rattle.checker.proofs.body.body.Goals as goal

pub loop-kinds-init : goal.loop-kinds-init
loop-kinds-init c = toward-first _ _ _ _ _ _ _ refl refl refl c.requires c.outset-state.ensures

pub straight-requires : goal.straight-requires
straight-requires c =
    let tells = c.is_straight.ensures.straight c.if-is_straight.true in
    let w = noted-now c.loop-kinds.invariant c.note-there.ensures in
    let r = ready w.coming.going c.scan-d.result c.scan-d.ensures (λ j. (c.type_inv.strip j).fits)
    c.if-d-ne-DONE.false (straight-other c.scan-d.result.entry c.loop-kinds.state.nest tells.0) in
    (w.coming.going.setting.inside, r.floor_in, r.depth_in, r.kinds_long)

pub overflow_add-at : goal.overflow_add-at
overflow_add-at c =
    let w = noted-now c.loop-kinds.invariant c.note-there.ensures in
    omega (
      arith,
      moves w.coming.going c.scan-d.result c.scan-d.ensures
          (λ j. (c.type_inv.strip j).fits) c.if-d-ne-DONE.false,
    )

pub loop-kinds-smaller-then-is_straight : goal.loop-kinds-smaller-then-is_straight
loop-kinds-smaller-then-is_straight c =
    let w = noted-now c.loop-kinds.invariant c.note-there.ensures in
    omega (
      arith,
      moves w.coming.going c.scan-d.result c.scan-d.ensures
          (λ j. (c.type_inv.strip j).fits) c.if-d-ne-DONE.false,
    )

pub loop-kinds-preserved-then-is_straight : goal.loop-kinds-preserved-then-is_straight
loop-kinds-preserved-then-is_straight c =
    (let tells = c.is_straight.ensures.straight c.if-is_straight.true in
    let w = noted-now c.loop-kinds.invariant c.note-there.ensures in
    toward-on w c.scan-d.result c.scan-d.ensures (λ j. (c.type_inv.strip j).fits) c.if-d-ne-DONE.false
    (straight-other c.scan-d.result.entry c.loop-kinds.state.nest tells.0)
    (straight-judges tells c.in-Ok.ensures.judges) (omega (arith, c.in-Ok.ensures.keeps.1)) w.coming.going.blocks_long)
    (search rules)

pub ending-requires : goal.ending-requires
ending-requires c =
    let w = noted-now c.loop-kinds.invariant c.note-there.ensures in
    at-end w.coming.going c.scan-d.result c.scan-d.ensures (λ j. (c.type_inv.strip j).fits)
    c.if-d-ne-DONE.false (sym c.is_last.ensures ∙ c.if-is_last.true)

pub turn-requires : goal.turn-requires
turn-requires c =
    let w = noted-now c.loop-kinds.invariant c.note-there.ensures in (
      as-turn c.if-is_straight.false c.is_straight.ensures,
      ready w.coming.going c.scan-d.result c.scan-d.ensures
          (λ j. (c.type_inv.strip j).fits) c.if-d-ne-DONE.false (sym c.is_last.ensures ∙ c.if-is_last.false),
    )

pub overflow_add-at-in-loop-kinds : goal.overflow_add-at-in-loop-kinds
overflow_add-at-in-loop-kinds c =
    let w = noted-now c.loop-kinds.invariant c.note-there.ensures in
    omega (
      arith,
      moves w.coming.going c.scan-d.result c.scan-d.ensures
          (λ j. (c.type_inv.strip j).fits) c.if-d-ne-DONE.false,
    )

pub offset_bounds-bodies-nest : goal.offset_bounds-bodies-nest
offset_bounds-bodies-nest c =
    let w = noted-now c.loop-kinds.invariant c.note-there.ensures in
    omega (
      arith,
      room_in w c.scan-d.result c.scan-d.ensures (λ j. (c.type_inv.strip j).fits)
          c.if-d-ne-DONE.false (sym c.is_last.ensures ∙ c.if-is_last.false) (c.in-Ok-turn.ensures.by_index _ _) c.if-nest-state.true,
    )

pub bounds-bodies-nest : goal.bounds-bodies-nest
bounds-bodies-nest c =
    let w = noted-now c.loop-kinds.invariant c.note-there.ensures in
    omega (
      arith,
      room_in w c.scan-d.result c.scan-d.ensures (λ j. (c.type_inv.strip j).fits)
          c.if-d-ne-DONE.false (sym c.is_last.ensures ∙ c.if-is_last.false) (c.in-Ok-turn.ensures.by_index _ _) c.if-nest-state.true,
    )

pub loop-kinds-smaller-then-nest-state : goal.loop-kinds-smaller-then-nest-state
loop-kinds-smaller-then-nest-state c =
    let w = noted-now c.loop-kinds.invariant c.note-there.ensures in
    omega (
      arith,
      moves w.coming.going c.scan-d.result c.scan-d.ensures
          (λ j. (c.type_inv.strip j).fits) c.if-d-ne-DONE.false,
    )

pub loop-kinds-preserved-then-nest-state : goal.loop-kinds-preserved-then-nest-state
loop-kinds-preserved-then-nest-state c =
    (let w = noted-now c.loop-kinds.invariant c.note-there.ensures in
    toward-in w c.scan-d.result c.scan-d.ensures (λ j. (c.type_inv.strip j).fits) c.if-d-ne-DONE.false
    (sym c.is_last.ensures ∙ c.if-is_last.false) (c.in-Ok-turn.ensures.by_index _ _) c.if-nest-state.true)
    (search rules) (search rules)

pub loop-kinds-smaller : goal.loop-kinds-smaller
loop-kinds-smaller c =
    let w = noted-now c.loop-kinds.invariant c.note-there.ensures in
    omega (
      arith,
      moves w.coming.going c.scan-d.result c.scan-d.ensures
          (λ j. (c.type_inv.strip j).fits) c.if-d-ne-DONE.false,
    )

pub loop-kinds-preserved : goal.loop-kinds-preserved
loop-kinds-preserved c =
    (let w = noted-now c.loop-kinds.invariant c.note-there.ensures in
    toward-on w c.scan-d.result c.scan-d.ensures (λ j. (c.type_inv.strip j).fits) c.if-d-ne-DONE.false
    (sym c.is_last.ensures ∙ c.if-is_last.false) (c.in-Ok-turn.ensures.by_index _ _) c.if-nest-state.false)
    (search rules) (search rules)

pub returns-then-d-ne-DONE-clause-says : goal.returns-then-d-ne-DONE-clause-says
returns-then-d-ne-DONE-clause-says c =
    let w = noted-now c.loop-kinds.invariant c.note-there.ensures in
    broken c.refuse.ensures (refuses w.coming.going c.scan-d.result c.scan-d.ensures (λ j. (c.type_inv.strip j).fits) c.if-d-ne-DONE.true)

pub returns-in-Err-clause-says : goal.returns-in-Err-clause-says
returns-in-Err-clause-says c =
    let tells = c.is_straight.ensures.straight c.if-is_straight.true in
    let w = noted-now c.loop-kinds.invariant c.note-there.ensures in
    broken c.refuse-in-Err.ensures (breaks w.coming.going c.scan-d.result c.scan-d.ensures
    (λ j. (c.type_inv.strip j).fits) c.if-d-ne-DONE.false (straight-other c.scan-d.result.entry
    c.loop-kinds.state.nest tells.0) (straight-judges tells c.in-Err.ensures.judges))

pub returns-then-is_last-clause-stood : goal.returns-then-is_last-clause-stood
returns-then-is_last-clause-stood c =
    let w = noted-now c.loop-kinds.invariant c.note-there.ensures in
    ended-there w c.scan-d.result c.scan-d.ensures (λ j. (c.type_inv.strip j).fits) c.if-d-ne-DONE.false (sym c.is_last.ensures ∙ c.if-is_last.true)

pub returns-in-Err-turn-clause-says : goal.returns-in-Err-turn-clause-says
returns-in-Err-turn-clause-says c =
    let w = noted-now c.loop-kinds.invariant c.note-there.ensures in
    broken c.refuse-in-Err-turn.ensures (breaks w.coming.going c.scan-d.result c.scan-d.ensures
    (λ j. (c.type_inv.strip j).fits) c.if-d-ne-DONE.false (sym c.is_last.ensures ∙ c.if-is_last.false)
    (c.in-Err-turn.ensures.by_index _ _))
