use mathlib.Core.Path.{◌≡◌, refl, sym, subst}
use mathlib.Core.Bool.{true}
use native.Mathlib.Nat.{le_antisymm}
use native.Mathlib.Omega.{arith}
use borrow.Author.Tests.{lt-ltb, le-ltb}
use lib.Dec.{ltb}
use Rattle.operation.specs.Shape.{i8x16}
use Rattle.operation.specs.Vector.{lane}
use Rattle.operation.specs.Op.{all}
use Rattle.operation.proofs.Laws.Scan.{all_more, all-false}
use Rattle.lane.proofs.lanes.choosing.indices_fit.Goals as goal

pub loop-i-init : goal.loop-i-init
loop-i-init c = (omega arith, refl)

pub loop-i-preserved : goal.loop-i-preserved
loop-i-preserved c =
    let l = c.loop-i in let v = c.args.s.bytes in (
      omega arith,
      all_more l.i (λ n. ltb (lane i8x16 v n) 32) l.invariant.1 (lt-ltb (lane i8x16 v l.i) 32 (omega (arith, c.get.ensures))),
    )

pub returns-then-i-ge-LANES : goal.returns-then-i-ge-LANES
returns-then-i-ge-LANES c =
    let l = c.loop-i in let v = c.args.s.bytes in
    sym (subst (λ j. all j (λ n. ltb (lane i8x16 v n) 32) ≡ true) (le_antisymm l.invariant.0 c.if-i-ge-LANES.true) l.invariant.1)

pub returns-then-get-ge32 : goal.returns-then-get-ge32
returns-then-get-ge32 c =
    let l = c.loop-i in let v = c.args.s.bytes in
    sym (all-false 16 l.i (λ n. ltb (lane i8x16 v n) 32) c.if-i-ge-LANES.false (le-ltb (lane i8x16 v l.i) 32 (omega (arith, c.get.ensures))))
