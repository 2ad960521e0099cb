-- The number, or its refusal.
use Rattle.std.proofs.lemmas.Result.{err_from_is_err_and}
use Rattle.instr.specs.Decode.{immediates_at}
use Rattle.instr.proofs.immediates.with_word.Goals as goal

pub returns-in_err-word-clause-is : goal.returns-in_err-word-clause-is
unfolding immediates_at
returns-in_err-word-clause-is c h at e =
    let p = err_from_is_err_and c.from_residual.result c.from_residual.ensures.1 in
    rw (p.1, p.2, ← c.in_err-word.ensures.is)

pub returns-clause-is : goal.returns-clause-is
unfolding immediates_at
returns-clause-is c h at e = rw (e, ← c.in_ok-word.ensures.is)
