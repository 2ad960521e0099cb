-- Three numbers a turn, from the innermost block outward.
use Prim.Native.Nat.{ℕ, ◌+◌, ◌*◌}
use mathlib.Core.Path.{◌≡◌}
use mathlib.Core.Bool.{Bool}
use mathlib.Core.List.{List}
use lib.ListN.{length}
use Rattle.limits.specs.Limits.{nest_limit}
use Rattle.opcode.specs.Kind.{Kind}
use Rattle.rules.specs.Typing.{Frame}
use Rattle.checker.specs.Walk.{OpenBlocks}
use Rattle.checker.specs.Survey.{marks_of, fronted}
use Rattle.checker.specs.Inner.Coming.{Noted}
use Rattle.checker.proofs.Marks.{Unmarked}
use Rattle.checker.proofs.place.put_marks.Given as goal

abbrev pub invariant-loop-k : goal.invariant-loop-k
invariant-loop-k l = (length l.marks ≡ 3 * nest_limit + 1)
    × ((rs : List Kind) (fs : List Frame) (bs : List ℕ) (dead : Bool) → OpenBlocks rs l.words l.nest l.floor dead fs
    → length bs ≡ l.nest → Noted l.bodies bs → Unmarked rs l.words l.bodies l.k l.height l.marks (fronted (marks_of fs bs) l.initial.marks))
