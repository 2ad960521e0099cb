-- A lane of 32 bits is put as its four bytes, in their part of the vector.
use mathlib.Core.Path.{◌∙◌, ◌≡◌}
use native.Mathlib.Omega.{arith}
use Prim.Native.Nat.{◌+◌, ◌*◌, ◌≤◌}
use Rattle.operation.specs.Vector.{le}
use Rattle.lane.proofs.Laws.Build.{le_4, part-put, part-sixteen}
use Rattle.lane.proofs.laid.I32x4Laid.put.Goals as goal

pub returns : goal.returns
returns c =
    let a = c.args in
    let h : a.i * 4 + 4 ≤ 16 = omega arith in
    let e : c.copy_from_slice.new.self ≡ le 4 a.x = c.copy_from_slice.ensures.after ∙ c.to_le_bytes.ensures ∙ le_4 a.x in
    record {
      sixteen = part-sixteen 4 a.v.now a.i a.x c.copy_from_slice.new.self h c.requires.1 e;
      same = part-put 4 a.v.now a.i a.x c.copy_from_slice.new.self h c.requires.1 e;
    }
