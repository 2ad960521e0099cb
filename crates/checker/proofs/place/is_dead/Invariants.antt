-- Each open block's word says whether the code around it is dead.
use Prim.Native.Nat.{ℕ}
use mathlib.Core.List.{List}
use Rattle.opcode.specs.Kind.{Kind}
use Rattle.rules.specs.Typing.{Frame}
use Rattle.checker.specs.Walk.{OpenBlocks}
use Rattle.checker.proofs.Marks.{Outward}
use Rattle.checker.proofs.place.is_dead.Given as goal

abbrev pub invariant-loop-k : goal.invariant-loop-k
invariant-loop-k l = (rs : List Kind) (fs : List Frame) (floor : ℕ) → OpenBlocks rs l.words l.nest floor l.dead fs → Outward rs l.words l.k fs
