-- The number, or leb128's two errors as the card tells them.
use mathlib.Core.Path.{sym, ap}
use native.Mathlib.Omega.{arith}
use Rattle.leb128.proofs.Bounds.{found}
use Rattle.instr.specs.Decode.{item_of, number_item}
use Rattle.instr.proofs.reading.number_at.Goals as goal

pub returns-in-Ok-clause-within : goal.returns-in-Ok-clause-within
returns-in-Ok-clause-within g c =
    let f = found _ _ _ _ (λ j. (c.type_inv.s j).fits) g.met.F.Format.some _ _ (sym c.in-Ok.ensures.answer) in
    (f.small, omega (arith, f.some), f.inside)

pub overflow_add-result : goal.overflow_add-result
overflow_add-result g c =
    let f = found _ _ _ _ (λ j. (c.type_inv.s j).fits) g.met.F.Format.some _ _ (sym c.in-Ok.ensures.answer) in
    omega (arith, f.inside)

pub returns-in-Ok-clause-is : goal.returns-in-Ok-clause-is
unfolding number_item
returns-in-Ok-clause-is g c = ap (item_of c.args.s.now c.args.p) c.in-Ok.ensures.answer

pub returns-in-Err-Short-clause-is : goal.returns-in-Err-Short-clause-is
unfolding number_item
returns-in-Err-Short-clause-is g c = rw c.short.ensures (ap (item_of c.args.s.now c.args.p) (rw c.in-Err-Short.field-0-is at c.in-Err-Short.ensures.answer))

pub returns-in-Err-Wrong-clause-is : goal.returns-in-Err-Wrong-clause-is
unfolding number_item
returns-in-Err-Wrong-clause-is g c = rw c.new.ensures (ap (item_of c.args.s.now c.args.p) (rw c.in-Err-Wrong.field-0-is at c.in-Err-Wrong.ensures.answer))
