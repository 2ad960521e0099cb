use Prim.Native.Nat.{ℕ, ◌+◌, ◌<◌}
use mathlib.Core.Path.{◌≡◌, ap, sym, ◌∙◌}
use native.Mathlib.Omega.{arith}
use lib.ListN.{replicate, length, get_or, set, drop, length-set, length-drop}
use lib.Seq.{get_or-drop}
use Rattle.machine.proofs.Laws.Copy.{turn}
use Rattle.machine.proofs.span.read.Goals as goal

pub loop-k-preserved : goal.loop-k-preserved
loop-k-preserved c =
    let a = c.args in let l = c.loop-k in
    let h : l.k < length (drop a.at a.s.now) = simp length-drop (omega arith) in let z : 0 + l.k ≡ l.k = omega arith in (
      simp length-set (omega arith),
      ap (λ (i : ℕ). set l.b i (get_or a.s.now (a.at + l.k) 0)) (sym z)
          ∙ turn (replicate 16 0) 0 (drop a.at a.s.now) l.b l.k _ l.invariant.1 (sym (get_or-drop a.at a.s.now l.k 0)) (omega arith) h,
    )
