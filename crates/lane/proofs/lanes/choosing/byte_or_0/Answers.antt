-- The byte where there is one.
use mathlib.Core.Path.{◌∙◌, sym, ap}
use mathlib.Core.Bool.{Bool, cond}
use borrow.Author.Tests.{lt-ltb, le-ltb}
use Rattle.operation.specs.Shape.{i8x16}
use Rattle.operation.specs.Vector.{lane}
use Rattle.lane.proofs.lanes.choosing.byte_or_0.Goals as goal

pub returns-then-k-lt-LANES : goal.returns-then-k-lt-LANES
returns-then-k-lt-LANES c = c.get.ensures ∙ sym (ap (λ (t : Bool). cond t (lane i8x16 c.args.v.now c.args.i) 0) (lt-ltb c.args.i 16 c.if-k-lt-LANES.true))

pub returns-else-k-lt-LANES : goal.returns-else-k-lt-LANES
returns-else-k-lt-LANES c = sym (ap (λ (t : Bool). cond t (lane i8x16 c.args.v.now c.args.i) 0) (le-ltb c.args.i 16 c.if-k-lt-LANES.false))
