-- Each way out of the loop is one answer of `number_at`; `reads-number` says the same by the grammar.
use native.Mathlib.Omega.{arith}
use mathlib.Core.Path.{◌≡◌, sym, ◌∙◌}
use mathlib.Core.Bool.{true, false}
use Rattle.leb128.specs.Inner.Room.{allowed_in, extended_to}
use Rattle.leb128.proofs.Exact.{reads-number}
use Rattle.leb128.proofs.ReadLoop.{starts, turns, ends, fails, stops, refuses, last_fits}
use Rattle.leb128.proofs.reading.read.Goals as goal

pub loop-i-init : goal.loop-i-init
loop-i-init g c = rw c.TOP-room.ensures (starts _ _ _ _ _ g.met.F.Format.some g.met.F.Format.whole)

pub overflow_add-result : goal.overflow_add-result
overflow_add-result g c =
    let t : allowed_in g.F.Format.SIGNED c.loop-i.room c.from-b.result ≡ true = rw c.SIGNED-signed.ensures at (sym c.allowed.ensures ∙ c.if-allowed.true) in
    let e : c.extended.result ≡ extended_to g.F.Format.SIGNED c.loop-i.room c.from-b.result = rw c.SIGNED-signed.ensures at c.extended.ensures in
    let below = last_fits c.loop-i.invariant c.if-s-i.false _ c.from-b.ensures c.if-b-lt128.true t _ e in
    omega (arith, below, g.met.F.Format.whole, c.TOP-room.ensures)

pub overflow_mul-result : goal.overflow_mul-result
overflow_mul-result g c = omega (arith, overflow_add-result g c)

pub loop-i-preserved : goal.loop-i-preserved
loop-i-preserved g c = turns c.loop-i.invariant c.if-s-i.false _ c.from-b.ensures (λ j. (c.type_inv.s j).fits) c.if-b-lt128.false c.if-room-lt128.false

pub returns-then-s-i : goal.returns-then-s-i
returns-then-s-i g c = reads-number _ _ _ _ (λ j. (c.type_inv.s j).fits) _ (ends c.loop-i.invariant c.if-s-i.true)

pub returns-then-allowed : goal.returns-then-allowed
returns-then-allowed g c =
    let t : allowed_in g.F.Format.SIGNED c.loop-i.room c.from-b.result ≡ true = rw c.SIGNED-signed.ensures at (sym c.allowed.ensures ∙ c.if-allowed.true) in
    let e : c.extended.result ≡ extended_to g.F.Format.SIGNED c.loop-i.room c.from-b.result = rw c.SIGNED-signed.ensures at c.extended.ensures in
    reads-number _ _ _ _ (λ j. (c.type_inv.s j).fits) _ (stops c.loop-i.invariant c.if-s-i.false _ c.from-b.ensures c.if-b-lt128.true t _ e)

pub returns-else-allowed : goal.returns-else-allowed
returns-else-allowed g c =
    let t : allowed_in g.F.Format.SIGNED c.loop-i.room c.from-b.result ≡ false = rw c.SIGNED-signed.ensures at (sym c.allowed.ensures ∙ c.if-allowed.false) in
    reads-number _ _ _ _ (λ j. (c.type_inv.s j).fits) _ (refuses c.loop-i.invariant c.if-s-i.false _ c.from-b.ensures c.if-b-lt128.true t)

pub returns-then-room-lt128 : goal.returns-then-room-lt128
returns-then-room-lt128 g c =
    reads-number _ _ _ _ (λ j. (c.type_inv.s j).fits) _ (fails c.loop-i.invariant c.if-s-i.false _ c.from-b.ensures c.if-b-lt128.false c.if-room-lt128.true)
