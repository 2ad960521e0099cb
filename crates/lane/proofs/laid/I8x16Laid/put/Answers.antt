-- To put a lane of one byte is to store it.
use mathlib.Core.Path.{sym}
use native.Mathlib.Omega.{arith}
use Rattle.operation.proofs.Laws.Vectors.{sixteen-set}
use Rattle.lane.proofs.Laws.Build.{put_byte}
use Rattle.lane.proofs.laid.I8x16Laid.put.Goals as goal

pub returns : goal.returns
returns c =
    let long = c.requires.1.long in
    record {
      sixteen = sixteen-set c.args.v.now c.args.i c.args.x (omega arith) c.requires.1;
      same = sym (put_byte c.args.v.now c.args.i c.args.x (omega arith) (omega arith));
    }
