-- A byte that is a block type, one that is not, or none.
use mathlib.Core.Path.{sym, ◌∙◌}
use Rattle.std.proofs.lemmas.Result.{err_from_is_err_and}
use Rattle.instr.specs.Decode.{block_at}
use Rattle.instr.proofs.reading.block_at.Goals as goal

pub returns-in_err-block-clause-is : goal.returns-in_err-block-clause-is
unfolding block_at
returns-in_err-block-clause-is c = let p = err_from_is_err_and c.from_residual.result c.from_residual.ensures.1 in rw (p.1, p.2, ← c.in_err-block.ensures.is)

pub returns-then-is_block_type-clause-is : goal.returns-then-is_block_type-clause-is
unfolding block_at
returns-then-is_block_type-clause-is c = rw (← c.in_ok-block.ensures.is, sym c.is_block_type.ensures ∙ c.if-is_block_type.true)

pub returns-else-is_block_type-clause-is : goal.returns-else-is_block_type-clause-is
unfolding block_at
returns-else-is_block_type-clause-is c = rw (c.new.ensures, ← c.in_ok-block.ensures.is, sym c.is_block_type.ensures ∙ c.if-is_block_type.false)
