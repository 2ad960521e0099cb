use native.Mathlib.Omega.{arith}
use Rattle.operation.proofs.Laws.Vectors.{sixteen-zeros}
use Rattle.lane.proofs.Laws.Build.{begun-none, begun-more, begun-all}
use Rattle.lane.proofs.lanes.each.each_lane.Goals as goal

pub loop-i-init : goal.loop-i-init
loop-i-init g c = (sixteen-zeros, λ at h. begun-none _ _)

pub put-requires : goal.put-requires
put-requires g c = (omega arith, c.loop-i.invariant.0)

pub loop-i-preserved : goal.loop-i-preserved
loop-i-preserved g c = (
  c.put.ensures.sixteen,
  λ at h. begun-more _ _ c.loop-i.i _ _ _ _ g.met.S.Shape.lanes_fill (omega arith) (c.loop-i.invariant.1 at h) c.put.ensures (h _ _ (omega arith) c.f.ensures),
)

pub returns : goal.returns
returns g c at h = begun-all _ _ c.loop-i.i _ _ g.met.S.Shape.lanes_fill (omega arith) (c.loop-i.invariant.1 at h)
