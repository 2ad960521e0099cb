-- The exponent and its refusal, the offset and its own, the lane index.
use Rattle.std.proofs.lemmas.Result.{err_from_is_err_and}
use Rattle.instr.specs.Inner.Over.{over_memory}
use Rattle.instr.proofs.scanning.memory.Goals as goal

pub returns-in_err-align : goal.returns-in_err-align
unfolding over_memory
returns-in_err-align c =
    let p = err_from_is_err_and c.from_residual.result c.from_residual.ensures.1 in
    rw (p.1, p.2, ← c.in_err-align.ensures.is)

pub returns-in_err-offset : goal.returns-in_err-offset
unfolding over_memory
returns-in_err-offset c =
    let p = err_from_is_err_and c.from_residual-in_err-offset.result c.from_residual-in_err-offset.ensures.1 in
    rw (p.1, p.2, ← c.in_ok-align.ensures.is, ← c.in_err-offset.ensures.is)

pub returns-in_err-lane_at : goal.returns-in_err-lane_at
unfolding over_memory
returns-in_err-lane_at c =
    let p = err_from_is_err_and c.from_residual-in_err-lane_at.result c.from_residual-in_err-lane_at.ensures.1 in
    rw (p.1, p.2, ← c.in_ok-align.ensures.is, ← c.in_ok-offset.ensures.is, c.if-laned.true, ← c.in_err-lane_at.ensures.is)

pub returns-in_ok-lane_at : goal.returns-in_ok-lane_at
unfolding over_memory
returns-in_ok-lane_at c = rw (c.over.ensures, ← c.in_ok-align.ensures.is, ← c.in_ok-offset.ensures.is, c.if-laned.true, ← c.in_ok-lane_at.ensures.is)

pub returns-else-laned : goal.returns-else-laned
unfolding over_memory
returns-else-laned c = rw (c.over-else-laned.ensures, ← c.in_ok-align.ensures.is, ← c.in_ok-offset.ensures.is, c.if-laned.false)
