use native.Mathlib.Omega.{arith}
use lib.ListN.{length-set}
use Rattle.checker.proofs.Marks.{unmarked, all-marked, one-marked}
use Rattle.checker.proofs.place.put_marks.Goals as goal

pub loop-k-init : goal.loop-k-init
loop-k-init c = (c.requires.3, λ rs fs bs dead n m d. unmarked bs _ n m d)

pub loop-k-preserved : goal.loop-k-preserved
loop-k-preserved c = (
  simp length-set (omega (arith, c.loop-k.invariant.0)),
  λ rs fs bs dead n m d.
      one-marked (c.loop-k.invariant.1 rs fs bs dead n m d) c.loop-k-test.true (omega arith) (omega (arith, c.loop-k.invariant.0))
      c.way_in.ensures c.floor_in-height.ensures,
)

pub returns : goal.returns
returns c = λ rs fs bs dead n m d. all-marked (c.loop-k.invariant.1 rs fs bs dead n m d) (omega (arith, c.loop-k-test.false))
