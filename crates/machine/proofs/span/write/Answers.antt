use mathlib.Core.Path.{refl, ap, ◌∙◌}
use native.Mathlib.Omega.{arith}
use lib.ListN.{length-set}
use lib.Seq.{paste}
use Rattle.machine.proofs.Laws.Copy.{turn, overwritten}
use Rattle.machine.proofs.span.write.Goals as goal

pub loop-k-preserved : goal.loop-k-preserved
loop-k-preserved c =
    let a = c.args in let l = c.loop-k in (
      simp length-set (omega arith),
      l.invariant.1,
      turn a.s.now a.at a.v.bytes l.s l.k _ l.invariant.2 refl (omega arith) (omega arith),
    )

pub returns : goal.returns
returns c =
    let l = c.loop-k in
    l.invariant.2 ∙ ap (paste c.args.s.now c.args.at c.args.v.bytes) (omega arith)
    ∙ overwritten c.args.s.now c.args.at c.args.v.bytes c.args.n (omega arith)
