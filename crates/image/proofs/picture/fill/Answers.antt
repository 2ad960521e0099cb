-- The copy has room, and the zeros begin after it.
use Prim.Native.Nat.{ℕ, ◌+◌}
use mathlib.Core.Path.{refl, ap}
use native.Mathlib.Omega.{arith}
use Rattle.buffer.proofs.Writing.{part-copied}
use Rattle.image.proofs.Painting.{fill-all}
use Rattle.image.proofs.picture.fill.Goals as goal

pub returns : goal.returns
returns c =
    let a = c.args in
    let e = c.copy.ensures in
    fill-all a.image.now a.slots.now a.at a.room _ c.requires.0 c.requires.1
    (part-copied a.image.now a.slots.now a.at _ (omega (arith, c.requires)) refl (omega (arith, c.requires)) e.1) (ap (λ (n : ℕ). a.at + n) e.0)
    (c.fill.ensures.after (λ y h. h))
