-- All 64 bits are read; a narrower lane takes no more than its scalar's.
use mathlib.Core.Path.{◌∙◌, ap, ap₂}
use mathlib.Core.List.{List}
use Prim.Native.Nat.{ℕ, ◌-◌}
use Rattle.operation.specs.Op.{replaced}
use Rattle.machine.specs.Inner.Flat.{put_slot, top_of, low64}
use Rattle.machine.proofs.Laws.Numbers.{replaced-lowest}
use Rattle.machine.proofs.step.vectors.replace.Goals as goal

pub returns : goal.returns
returns c w row h =
    let a = c.args in let s = a.stack.now in let d = a.depth in
    c.put.ensures ∙
    ap (put_slot s (d - 2)) (c.replace.ensures w row h ∙
    ap₂ (λ (v : List ℕ) (x : ℕ). replaced w v a.index x) c.top-a.ensures
    (c.long-x.ensures
    ∙ ap low64 c.top.ensures) ∙
    replaced-lowest w (top_of s d 2) a.index (top_of s d 1))
