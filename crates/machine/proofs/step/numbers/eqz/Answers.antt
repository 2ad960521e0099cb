-- The chain of calls.
use Prim.Native.Nat.{ℕ, ◌-◌}
use mathlib.Core.Path.{ap, ◌∙◌}
use lib.Dec.{eqb}
use Rattle.std.specs.Int.{from_bool}
use Rattle.operation.specs.Vector.{le}
use Rattle.machine.specs.Inner.Flat.{put_slot, top_of, low32}
use Rattle.machine.proofs.Laws.Numbers.{bit}
use Rattle.machine.proofs.step.numbers.eqz.Goals as goal

pub returns : goal.returns
returns c =
    c.put.ensures
    ∙ ap (put_slot c.args.stack.now (c.args.depth - 1))
    (c.of_number.ensures
    ∙ ap (le 16) (c.from.ensures ∙ ap (λ (n : ℕ). from_bool (eqb n 0)) (c.word-a.ensures ∙ ap low32 c.top.ensures) ∙ bit (eqb (low32 (top_of c.args.stack.now c.args.depth 1)) 0)))
