-- All 64 bits are read; a narrower lane takes no more than its scalar's.
use mathlib.Core.Path.{◌∙◌, ap}
use Prim.Native.Nat.{◌-◌}
use Rattle.operation.specs.Op.{splat}
use Rattle.machine.specs.Inner.Flat.{put_slot, top_of, low64}
use Rattle.machine.proofs.Laws.Numbers.{splat-lowest}
use Rattle.machine.proofs.step.vectors.splat.Goals as goal

pub returns : goal.returns
returns c w row =
    let a = c.args in let s = a.stack.now in let d = a.depth in
    c.put.ensures ∙
    ap (put_slot s (d - 1))
    (c.splat.ensures w row
    ∙ ap (splat w)
    (c.long-x.ensures ∙ ap low64 c.top.ensures)
    ∙ splat-lowest w (top_of s d 1))
