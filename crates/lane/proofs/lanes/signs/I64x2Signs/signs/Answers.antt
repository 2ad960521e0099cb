-- The top bit.
use native.Mathlib.Omega.{arith}
use mir.Syntax.{w64}
use Rattle.operation.proofs.Laws.Number.{field_of, field_lt}
use Rattle.operation.proofs.Laws.Scan.{sign_bit}
use Rattle.lane.specs.Inner.Words.{signs}
use Rattle.lane.proofs.lanes.signs.I64x2Signs.signs.Goals as goal

pub returns : goal.returns
unfolding signs
returns c = omega (arith, sign_bit w64 (field_of 64 c.args.word 0) (field_lt 64 c.args.word 0))
