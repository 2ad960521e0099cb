-- How many are good is one answer of `lanes_at`.
use mathlib.Core.Path.{◌≡◌}
use native.Mathlib.Omega.{arith}
use Rattle.instr.proofs.Sixteens.{scanned-all, scanned-bad, scanned-cut}
use Rattle.instr.proofs.reading.lanes_at.Goals as goal

pub returns-then-k-ge16-clause-is : goal.returns-then-k-ge16-clause-is
returns-then-k-ge16-clause-is c =
    let k : c.good_lanes-k.result ≡ 16 = omega (arith, c.good_lanes-k.ensures.most) in
    rw (k, scanned-all c.good_lanes-k.ensures c.if-k-ge16.true)

pub returns-then-p-k-clause-is : goal.returns-then-p-k-clause-is
returns-then-p-k-clause-is c = rw (c.new.ensures, scanned-bad c.good_lanes-k.ensures c.if-k-ge16.false c.if-p-k.true)

pub returns-else-p-k-clause-is : goal.returns-else-p-k-clause-is
returns-else-p-k-clause-is c = rw (c.short.ensures, scanned-cut c.good_lanes-k.ensures c.if-k-ge16.false c.if-p-k.false)
