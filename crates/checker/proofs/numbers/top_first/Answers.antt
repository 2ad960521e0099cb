use Prim.Native.Nat.{◌+◌, ◌-◌, ◌<◌}
use mathlib.Core.Path.{◌≡◌, ◌∙◌}
use native.Mathlib.Omega.{arith}
use lib.ListN.{length, take, drop, length-drop}
use lib.Seq.{length-take-le, get_or-take, get_or-drop}
use Rattle.checker.proofs.Digits.{reads_none, reads_more, reads_all}
use Rattle.checker.proofs.numbers.top_first.Goals as goal

pub loop-kind-init : goal.loop-kind-init
loop-kind-init c = reads_none c.args.strip.now c.args.from c.args.n

pub loop-kind-preserved : goal.loop-kind-preserved
loop-kind-preserved c =
    let a = c.args in
    let s = a.strip.now in
    let k = c.loop-kind.kind-index in
    let n = a.from + a.n - a.from in
    let long : length (take n (drop a.from s)) ≡ n = length-take-le n (drop a.from s) (omega (arith, c.requires.0, length-drop a.from s)) in
    let h : k < n = omega (arith, c.loop-kind-test.true, long) in
    rw (c.from.ensures ∙ get_or-take n (drop a.from s) k 0 h ∙ get_or-drop a.from s k 0)
    (reads_more s a.from a.n c.loop-kind.invariant c.requires.1 (omega arith) (c.type_inv.strip (a.from + k)).fits)

pub returns : goal.returns
returns c =
    let a = c.args in
    let s = a.strip.now in
    let n = a.from + a.n - a.from in
    let long : length (take n (drop a.from s)) ≡ n = length-take-le n (drop a.from s) (omega (arith, c.requires.0, length-drop a.from s)) in
    (c.loop-kind.invariant.small, reads_all s a.from a.n c.loop-kind.invariant (omega (arith, c.loop-kind-test.false, long)))
