-- A lane of 32 bits is two of 16, the low one first.
use native.Mathlib.Omega.{arith}
use Rattle.operation.specs.Vector.{number, lane}
use Rattle.operation.proofs.Laws.Number.{field-join}
use Rattle.lane.proofs.laid.I32x4Laid.get.Goals as goal

pub returns : goal.returns
unfolding lane
returns c =
    let a = c.args in
    omega (arith, field-join 16 (number a.v.now) a.i)
