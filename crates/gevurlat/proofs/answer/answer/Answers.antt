-- The buffers that are lent are zero.
use Rattle.std.proofs.Common.{ℕ, ◌*◌, refl, ap, arith}
use Rattle.gevurlat.specs.Program.{memory_bytes}
use Rattle.gevurlat.proofs.Zeros.{prints-zeros}
use Rattle.gevurlat.proofs.answer.answer.Goals as goal

pub returns-clause-prints : goal.returns-clause-prints
returns-clause-prints c =
    let n = c.result_count-n in
    prints-zeros memory_bytes (16 * n.result) 64 refl (ap (λ (r : ℕ). 16 * r) n.ensures) (omega (arith, n.ensures)) c.answer_in.ensures.prints_from
