-- From one instruction to the next, and into blocks with less room.
use Rattle.std.proofs.Common.{refl, sym, ◌∙◌, arith}
use Rattle.closing.proofs.Turns.{past-last, goes_on, at-end, at_other, no_room, not-closed, past-block}
use Rattle.closing.proofs.+close.Goals as goal

pub loop-at-init : goal.loop-at-init
loop-at-init t c = refl

pub returns : goal.returns
returns t c = sym (c.loop-at.invariant ∙ past-last c.args.s.now c.args.room c.loop-at.at c.loop-at-test.false)

pub returns-then-i-eq-GROUP_END : goal.returns-then-i-eq-GROUP_END
returns-then-i-eq-GROUP_END t c =
    sym (c.loop-at.invariant
    ∙ at-end c.args.s.now (λ j. (c.type_inv.s j).fits) c.args.room c.loop-at.at c.loop-at-test.true c.pass-i.ensures.0 c.pass-i.ensures.1
    c.if-i-eq-GROUP_END.true)

pub returns-then-room-eq0 : goal.returns-then-room-eq0
returns-then-room-eq0 t c =
    sym (c.loop-at.invariant
    ∙ no_room c.args.s.now (λ j. (c.type_inv.s j).fits) c.args.room c.loop-at.at c.loop-at-test.true c.pass-i.ensures.0 c.pass-i.ensures.1
    c.if-i-eq-GROUP_END.false (sym c.opens.ensures ∙ c.if-opens.true) c.if-room-eq0.true)

pub returns-then-m-i : goal.returns-then-m-i
returns-then-m-i t c =
    sym (c.loop-at.invariant
    ∙ not-closed c.args.s.now (λ j. (c.type_inv.s j).fits) c.args.room c.loop-at.at c.loop-at-test.true c.pass-i.ensures.0 c.pass-i.ensures.1
    c.if-i-eq-GROUP_END.false (sym c.opens.ensures ∙ c.if-opens.true) c.if-room-eq0.false c.close-m.ensures c.if-m-i.true)

pub loop-at-smaller-then-opens : goal.loop-at-smaller-then-opens
loop-at-smaller-then-opens t c =
    omega (
      arith,
      c.loop-at-test.true,
      goes_on c.args.s.now (λ j. (c.type_inv.s j).fits) c.args.room c.loop-at.at c.loop-at-test.true c.pass-i.ensures.0 c.pass-i.ensures.1,
      c.if-m-i.false,
    )

pub loop-at-preserved-then-opens : goal.loop-at-preserved-then-opens
loop-at-preserved-then-opens t c =
    c.loop-at.invariant
    ∙ past-block c.args.s.now (λ j. (c.type_inv.s j).fits) c.args.room c.loop-at.at c.loop-at-test.true c.pass-i.ensures.0 c.pass-i.ensures.1
    c.if-i-eq-GROUP_END.false (sym c.opens.ensures ∙ c.if-opens.true) c.if-room-eq0.false c.close-m.ensures c.if-m-i.false

pub loop-at-smaller : goal.loop-at-smaller
loop-at-smaller t c =
    omega (
      arith,
      c.loop-at-test.true,
      goes_on c.args.s.now (λ j. (c.type_inv.s j).fits) c.args.room c.loop-at.at c.loop-at-test.true c.pass-i.ensures.0 c.pass-i.ensures.1,
    )

pub loop-at-preserved : goal.loop-at-preserved
loop-at-preserved t c =
    c.loop-at.invariant
    ∙ at_other c.args.s.now (λ j. (c.type_inv.s j).fits) c.args.room c.loop-at.at c.loop-at-test.true c.pass-i.ensures.0 c.pass-i.ensures.1
    c.if-i-eq-GROUP_END.false (sym c.opens.ensures ∙ c.if-opens.false)
