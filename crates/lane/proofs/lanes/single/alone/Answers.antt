-- A lane of zeros is zero.
use mathlib.Core.Path.{◌∙◌, ap}
use mathlib.Core.Bool.{cond}
use lib.Dec.{eqb}
use Rattle.operation.proofs.Laws.Build.{build-same}
use Rattle.operation.proofs.Laws.Lane.{lane-zeros}
use Rattle.lane.proofs.lanes.single.alone.Goals as goal

pub returns : goal.returns
returns g c = c.with.ensures ∙ build-same _ _ _ _ (λ n h. ap (cond (eqb n 0) _) (lane-zeros g.S.Lane.Lane.width n))
