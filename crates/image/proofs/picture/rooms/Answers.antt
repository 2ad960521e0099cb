-- The slots of the values, then the zeros.
use Prim.Native.Nat.{◌+◌, ◌*◌, ◌-◌}
use mathlib.Core.Path.{◌≡◌}
use native.Mathlib.Omega.{arith}
use lib.ListN.{length}
use Rattle.limits.specs.Limits.{slot}
use Rattle.image.proofs.Form.{zeros_within}
use Rattle.image.proofs.Pieces.{not-in-slots, room-told}
use Rattle.image.proofs.picture.rooms.Goals as goal

pub returns-then-not-formed : goal.returns-then-not-formed
returns-then-not-formed c =
    let a = c.args in
    let n : a.at + slot * length a.kinds.now - a.at ≡ slot * length a.kinds.now = omega arith in
    not-in-slots a.image.now a.kinds.now a.at a.room c.requires.0 c.requires.1 _ n c.formed.ensures
    c.if-not-formed.true

pub returns : goal.returns
returns c =
    let a = c.args in
    let n : a.at + slot * length a.kinds.now - a.at ≡ slot * length a.kinds.now = omega arith in
    room-told a.image.now a.kinds.now a.at a.room c.requires.0 c.requires.1 _ n c.formed.ensures
    c.if-not-formed.false (zeros_within a.image.now _ _ (omega arith) (omega arith) c.all_zero.ensures)
