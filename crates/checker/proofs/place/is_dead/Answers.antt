use mathlib.Core.Path.{refl}
use native.Mathlib.Omega.{arith}
use Rattle.checker.proofs.Marks.{tells-live, tells-dead, outward, all_live, one-dead, one-outward}
use Rattle.checker.proofs.place.is_dead.Goals as goal

pub loop-k-init : goal.loop-k-init
loop-k-init c = λ rs fs floor n. outward c.if-dead.false n

pub returns-then-dead_in : goal.returns-then-dead_in
returns-then-dead_in c =
    λ rs fs floor n. tells-dead refl (one-dead (c.loop-k.invariant rs fs floor n)
    c.loop-k-test.true c.dead_in.ensures c.if-dead_in.true)

pub loop-k-preserved : goal.loop-k-preserved
loop-k-preserved c =
    λ rs fs floor n. one-outward (c.loop-k.invariant rs fs floor n)
    c.loop-k-test.true c.dead_in.ensures c.if-dead_in.false

pub returns : goal.returns
returns c = λ rs fs floor n. tells-live refl (all_live (c.loop-k.invariant rs fs floor n) (omega (arith, c.loop-k-test.false)))
