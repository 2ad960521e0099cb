-- Each class has its items; the class is the row's.
use mathlib.Core.Path.{sym, ap, ◌∙◌}
use Rattle.std.proofs.lemmas.Result.{err_from_is_err_and}
use Rattle.opcode.specs.Immediate.{nothing, index, block_type, word, long, lane_index, sixteen_bytes, sixteen_lanes}
use Rattle.opcode.proofs.Entries.{class-in, moved_in_lem, lanes-in}
use Rattle.instr.specs.Inner.Over.{over, over_class}
use Rattle.instr.proofs.Over.{over-class, over-float, over_none, over-memory}
use Rattle.instr.proofs.scanning.immediates.Goals as goal

pub returns-in-0 : goal.returns-in-0
unfolding over_class
returns-in-0 c row is = rw c.over.ensures (sym (over-class _ _ _ _ nothing (sym (c.immediates-class.ensures ∙ class-in row is) ∙ c.in-0.is)))

pub returns-in-1 : goal.returns-in-1
unfolding over_class
returns-in-1 c row is = c.number_at.ensures.is ∙ sym (over-class _ _ _ _ index (sym (c.immediates-class.ensures ∙ class-in row is) ∙ c.in-1.is))

pub returns-in-10 : goal.returns-in-10
returns-in-10 c row is = rw c.new.ensures (sym (over-float _ _ _ _ (sym (c.immediates-class.ensures ∙ class-in row is) ∙ c.in-10.is)))

pub returns-in-4 : goal.returns-in-4
returns-in-4 c row is =
    rw (c.moved.ensures ∙ moved_in_lem row is, c.lanes-in-4.ensures ∙ lanes-in row is) at c.memory.ensures
    ∙ sym (over-memory _ _ _ _ _ (c.immediates-class.ensures ∙ class-in row is) c.in-4.in_default-own.rest c.in-4.if-class-lt6-own.true)

pub returns-in_default : goal.returns-in_default
returns-in_default c row is =
    rw c.new-in_default.ensures (sym (over_none _ _ _ _ _ (c.immediates-class.ensures ∙ class-in row is) c.in_default.in_default-own.rest c.in_default.if-class-lt6-own.false))

pub returns-in_err-word-in-2 : goal.returns-in_err-word-in-2
unfolding over_class
returns-in_err-word-in-2 c row is =
    let p = err_from_is_err_and c.from_residual.result c.from_residual.ensures.1 in
    rw (p.1, p.2) (ap over c.in_err-word-in-2.ensures.is ∙ sym (over-class _ _ _ _ word (sym (c.immediates-class.ensures ∙ class-in row is) ∙ c.in-2.is)))

pub returns-in_ok-word-in-2 : goal.returns-in_ok-word-in-2
unfolding over_class
returns-in_ok-word-in-2 c row is =
    rw c.over-in-2.ensures (ap over c.in_ok-word-in-2.ensures.is
    ∙ sym (over-class _ _ _ _ word (sym (c.immediates-class.ensures ∙ class-in row is) ∙ c.in-2.is)))

pub returns-in_err-long-in-3 : goal.returns-in_err-long-in-3
unfolding over_class
returns-in_err-long-in-3 c row is =
    let p = err_from_is_err_and c.from_residual-in_err-long-in-3.result c.from_residual-in_err-long-in-3.ensures.1 in
    rw (p.1, p.2) (ap over c.in_err-long-in-3.ensures.is ∙ sym (over-class _ _ _ _ long (sym (c.immediates-class.ensures ∙ class-in row is) ∙ c.in-3.is)))

pub returns-in_ok-long-in-3 : goal.returns-in_ok-long-in-3
unfolding over_class
returns-in_ok-long-in-3 c row is =
    rw c.over-in-3.ensures (ap over c.in_ok-long-in-3.ensures.is
    ∙ sym (over-class _ _ _ _ long (sym (c.immediates-class.ensures ∙ class-in row is) ∙ c.in-3.is)))

pub returns-in_err-lane_at-in-6 : goal.returns-in_err-lane_at-in-6
unfolding over_class
returns-in_err-lane_at-in-6 c row is =
    let p = err_from_is_err_and c.from_residual-in_err-lane_at-in-6.result c.from_residual-in_err-lane_at-in-6.ensures.1 in
    rw (p.1, p.2) (ap over (rw (c.lanes.ensures ∙ lanes-in row is) at c.in_err-lane_at-in-6.ensures.is)
    ∙ sym (over-class _ _ _ _ lane_index (sym (c.immediates-class.ensures ∙ class-in row is) ∙ c.in-6.is)))

pub returns-in_ok-lane_at-in-6 : goal.returns-in_ok-lane_at-in-6
unfolding over_class
returns-in_ok-lane_at-in-6 c row is =
    rw c.over-in-6.ensures (ap over (rw (c.lanes.ensures ∙ lanes-in row is) at c.in_ok-lane_at-in-6.ensures.is)
    ∙ sym (over-class _ _ _ _ lane_index (sym (c.immediates-class.ensures ∙ class-in row is) ∙ c.in-6.is)))

pub returns-in_err-next-in-7 : goal.returns-in_err-next-in-7
unfolding over_class
returns-in_err-next-in-7 c row is =
    let p = err_from_is_err_and c.from_residual-in_err-next-in-7.result c.from_residual-in_err-next-in-7.ensures.1 in
    rw (p.1, p.2) (ap over c.in_err-next-in-7.ensures.is
    ∙ sym (over-class _ _ _ _ sixteen_bytes (sym (c.immediates-class.ensures ∙ class-in row is) ∙ c.in-7.is)))

pub returns-in_ok-next-in-7 : goal.returns-in_ok-next-in-7
unfolding over_class
returns-in_ok-next-in-7 c row is =
    rw c.over-in-7.ensures (ap over c.in_ok-next-in-7.ensures.is
    ∙ sym (over-class _ _ _ _ sixteen_bytes (sym (c.immediates-class.ensures ∙ class-in row is) ∙ c.in-7.is)))

pub returns-in_err-next-in-8 : goal.returns-in_err-next-in-8
unfolding over_class
returns-in_err-next-in-8 c row is =
    let p = err_from_is_err_and c.from_residual-in_err-next-in-8.result c.from_residual-in_err-next-in-8.ensures.1 in
    rw (p.1, p.2) (ap over c.in_err-next-in-8.ensures.is
    ∙ sym (over-class _ _ _ _ sixteen_lanes (sym (c.immediates-class.ensures ∙ class-in row is) ∙ c.in-8.is)))

pub returns-in_ok-next-in-8 : goal.returns-in_ok-next-in-8
unfolding over_class
returns-in_ok-next-in-8 c row is =
    rw c.over-in-8.ensures (ap over c.in_ok-next-in-8.ensures.is
    ∙ sym (over-class _ _ _ _ sixteen_lanes (sym (c.immediates-class.ensures ∙ class-in row is) ∙ c.in-8.is)))

pub returns-in_err-block-in-9 : goal.returns-in_err-block-in-9
unfolding over_class
returns-in_err-block-in-9 c row is =
    let p = err_from_is_err_and c.from_residual-in_err-block-in-9.result c.from_residual-in_err-block-in-9.ensures.1 in
    rw (p.1, p.2) (c.in_err-block-in-9.ensures.is ∙ sym (over-class _ _ _ _ block_type (sym (c.immediates-class.ensures ∙ class-in row is) ∙ c.in-9.is)))

pub returns-in_ok-block-in-9 : goal.returns-in_ok-block-in-9
unfolding over_class
returns-in_ok-block-in-9 c row is =
    rw c.from.ensures c.in_ok-block-in-9.ensures.is
    ∙ sym (over-class _ _ _ _ block_type (sym (c.immediates-class.ensures ∙ class-in row is) ∙ c.in-9.is))
