-- The copy has room.
use mathlib.Core.Path.{refl}
use native.Mathlib.Omega.{arith}
use Rattle.buffer.proofs.Writing.{part-copied}
use Rattle.text.specs.Append.{no_room}
use Rattle.text.proofs.Appending.{with-room}
use Rattle.text.proofs.put.Goals as goal

pub returns-then-out-at : goal.returns-then-out-at
returns-then-out-at c = no_room (omega arith)

pub returns-then-out-at-2 : goal.returns-then-out-at-2
returns-then-out-at-2 c = no_room (omega arith)

pub returns : goal.returns
returns c =
    let e = c.copy.ensures in
    with-room
    (omega arith)
    (omega (arith, e.0))
    (part-copied c.args.out.now c.args.bytes.now c.args.at _ (omega arith) refl (omega arith) e.1)
