use mathlib.Core.Path.{sym, ◌∙◌}
use native.Mathlib.Omega.{arith}
use Rattle.checker.proofs.Fronts.{read_more, read-cut, read-other, read_all, said}
use Rattle.checker.proofs.header.kinds.Goals as goal

pub returns-then-strip-k : goal.returns-then-strip-k
returns-then-strip-k c =
    let a = c.args in
    said c.refuse.ensures (read-cut a.strip.now c.loop-k.invariant a.n c.loop-k-test.true c.if-strip-k.true)

pub returns-then-not-is_kind : goal.returns-then-not-is_kind
returns-then-not-is_kind c =
    let a = c.args in
    said c.refuse-then-not-is_kind.ensures
    (read-other a.strip.now c.loop-k.invariant a.n c.loop-k-test.true c.if-strip-k.false
    (sym c.is_kind.ensures ∙ c.if-not-is_kind.true))

pub loop-k-preserved : goal.loop-k-preserved
loop-k-preserved c =
    read_more c.args.strip.now c.loop-k.invariant c.if-strip-k.false (sym c.is_kind.ensures ∙ c.if-not-is_kind.false)

pub returns : goal.returns
returns c = read_all c.args.strip.now c.loop-k.invariant c.args.n (omega arith) c.loop-k-test.false
