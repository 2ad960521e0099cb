-- Each instruction leads where the machine goes (`Blocking`), and the open blocks are counted anew (`Marking.recounted`).
use mathlib.Core.Path.{refl}
use native.Mathlib.Omega.{arith}
use Rattle.run.proofs.Marking.{recounted}
use Rattle.run.proofs.Blocking.{next-inside, ends-strip, ends-block, room-for-block, block-begins, room-for-loop, loop-begins, pops, asks-top, may_branch, branched, not_taken}
use Rattle.run.proofs.blocks.turn.Goals as goal

pub overflow_add-next : goal.overflow_add-next
overflow_add-next c = omega (arith, next-inside c.requires.0.held.valid c.requires.0.held.carries c.requires.1)

pub returns-then-nest-eq0 : goal.returns-then-nest-eq0
returns-then-nest-eq0 c = (λ v c' locals mem C. ends-strip v C c.requires.1 c.if-group-eq-GROUP_END.true c.if-nest-eq0.true _, c.requires.2)

pub returns-then-group-eq-GROUP_END : goal.returns-then-group-eq-GROUP_END
returns-then-group-eq-GROUP_END c = (λ v c' locals mem C. recounted refl (ends-block v C c.requires.1 c.if-group-eq-GROUP_END.true c.if-nest-eq0.false), c.requires.2)

pub mark-requires : goal.mark-requires
mark-requires c = room-for-block c.requires.0.held.valid c.requires.0.held.carries c.requires.1 c.if-group-eq-GROUP_BLOCK.true

pub returns-then-group-eq-GROUP_BLOCK : goal.returns-then-group-eq-GROUP_BLOCK
returns-then-group-eq-GROUP_BLOCK c = (
  λ v c' locals mem C. recounted c.mark.ensures (block-begins v C c.requires.1 c.if-group-eq-GROUP_BLOCK.true c.results_of.ensures refl),
  c.requires.2,
)

pub mark-requires-then-group-eq-GROUP_LOOP : goal.mark-requires-then-group-eq-GROUP_LOOP
mark-requires-then-group-eq-GROUP_LOOP c = room-for-loop c.requires.0.held.valid c.requires.0.held.carries c.requires.1 c.if-group-eq-GROUP_LOOP.true

pub returns-then-group-eq-GROUP_LOOP : goal.returns-then-group-eq-GROUP_LOOP
returns-then-group-eq-GROUP_LOOP c = (λ v c' locals mem C. recounted c.mark-then-group-eq-GROUP_LOOP.ensures (loop-begins v C c.requires.1 c.if-group-eq-GROUP_LOOP.true refl), c.requires.2)

pub overflow_sub-top-2 : goal.overflow_sub-top-2
overflow_sub-top-2 c =
    omega (
      arith,
      pops c.requires.0.held.valid c.requires.0.held.carries c.requires.1 c.if-group-eq-GROUP_END.false
          c.if-group-eq-GROUP_BLOCK.false c.if-group-eq-GROUP_LOOP.false,
    )

pub taken-requires : goal.taken-requires
taken-requires c =
    asks-top c.requires.0.held.valid c.requires.0.held.carries c.requires.1 c.if-group-eq-GROUP_END.false c.if-group-eq-GROUP_BLOCK.false
    c.if-group-eq-GROUP_LOOP.false

pub branch-t-requires : goal.branch-t-requires
branch-t-requires c = (
  may_branch c.requires.0.held.valid c.requires.0.held.carries c.requires.1 c.if-group-eq-GROUP_END.false
      c.if-group-eq-GROUP_BLOCK.false c.if-group-eq-GROUP_LOOP.false c.taken.ensures c.if-taken.true,
  c.requires.2,
)

pub returns-then-taken : goal.returns-then-taken
returns-then-taken c = (
  λ v c' locals mem C. recounted refl (branched v C c.requires.1 c.if-group-eq-GROUP_END.false c.if-group-eq-GROUP_BLOCK.false
      c.if-group-eq-GROUP_LOOP.false c.taken.ensures c.if-taken.true c.branch-t.ensures.0),
  c.branch-t.ensures.1,
)

pub returns : goal.returns
returns c = (
  λ v c' locals mem C. not_taken v C c.requires.1 c.if-group-eq-GROUP_END.false c.if-group-eq-GROUP_BLOCK.false c.if-group-eq-GROUP_LOOP.false
      c.taken.ensures c.if-taken.false,
  c.requires.2,
)
