-- The digits that io writes are the number's.
use Rattle.text.proofs.Decimals.{decimal-is, decimal-once}
use Rattle.text.proofs.decimal.Goals as goal

pub returns : goal.returns
returns c =
    let d = c.decimal-k in
    let n = c.args.n in
    rw (decimal-once (record { count = d.result; fewest = d.ensures.len; spelled = d.ensures.digits }) (decimal-is n)) at c.put.ensures
