-- The signs of both words.
use native.Mathlib.Omega.{arith}
use Rattle.operation.specs.Op.{Bitmask}
use Rattle.operation.proofs.Laws.Vectors.{test-lt}
use Rattle.lane.proofs.Laws.Signs.{sign-words}
use Rattle.lane.proofs.lanes.testing.bitmask.Goals as goal

pub overflow_add-result : goal.overflow_add-result
overflow_add-result g c =
    omega (
      arith,
      sign-words g.S.Lane.Lane.width _ c.args.a.bytes g.met.S.Shape.lanes_fill g.met.S.Signs.two_words c.LANES.ensures c.signs-low.ensures c.get.ensures
          c.signs-high.ensures c.get-2.ensures,
      test-lt (Bitmask g.S.Lane.Lane.width) c.args.a.bytes,
    )

pub returns : goal.returns
returns g c =
    sign-words _ _ c.args.a.bytes g.met.S.Shape.lanes_fill g.met.S.Signs.two_words c.LANES.ensures c.signs-low.ensures c.get.ensures
    c.signs-high.ensures c.get-2.ensures
