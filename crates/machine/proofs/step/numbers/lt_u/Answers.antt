-- The chain of calls.
use Prim.Native.Nat.{◌-◌}
use mathlib.Core.Path.{ap, ap₂, ◌∙◌}
use lib.Dec.{ltb}
use Rattle.std.specs.Int.{from_bool}
use Rattle.operation.specs.Vector.{le}
use Rattle.machine.specs.Inner.Flat.{put_slot, top_of, low32}
use Rattle.machine.proofs.Laws.Numbers.{bit}
use Rattle.machine.proofs.step.numbers.lt_u.Goals as goal

pub returns : goal.returns
returns c =
    let s = c.args.stack.now in let d = c.args.depth in
    c.put.ensures
    ∙ ap (put_slot s (d - 2))
    (c.of_number.ensures
    ∙ ap (le 16)
    (c.from.ensures
    ∙ ap₂ (λ a b. from_bool (ltb a b)) (c.word-a.ensures ∙ ap low32 c.top-2.ensures) (c.word-b.ensures ∙ ap low32 c.top.ensures)
    ∙ bit (ltb (low32 (top_of s d 2)) (low32 (top_of s d 1)))))
