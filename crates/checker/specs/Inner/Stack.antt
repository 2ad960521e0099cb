-- Inner: kinds taken from the stack and left on it, inside the innermost block.
use Rattle.std.specs.Prelude.{ℕ, ◌+◌, ◌≤◌, ◌<◌, ◌≡◌, Bool, List, ◌++◌, length, drop, Some, None, Ok, Err}
use Rattle.std.specs.declared.option.Option.{Option}
use Rattle.std.specs.declared.result.Result.{Result}
use Rattle.std.proofs.Math.Option.{some}
use Rattle.card.specs.Card.{OPERAND, DEEP}
use Rattle.limits.specs.Limits.{stack_limit}
use Rattle.opcode.specs.Kind.{Kind}
use Rattle.opcode.specs.Effect.{◌⇒◌}
use Rattle.opcode.specs.Number.{packed}
use Rattle.rules.specs.Typing.{Frame, Has}
use Rattle.checker.specs.Walk.{KindBytes}

-- an array is as it was from n on
abbrev pub Keeps : ℕ → List ℕ → List ℕ → Type 0
Keeps n before after = drop n after ≡ drop n before

-- the innermost block's values are on top of the others', which reach up to the floor
pub record Top (kinds : List ℕ) (depth floor : ℕ) (dead : Bool) (outer : List Kind) (f : Frame) : Type 0 where
  pub holds : KindBytes kinds depth (outer ++ f.values)
  pub floor_is : length outer ≡ floor
  pub dead_is : f.dead ≡ dead

-- how many values lie under the operands, if these are there
pub data Under (f : Frame) (ins : List Kind) (floor : ℕ) : Option ℕ → Type 0 where
  under : (below : List Kind) → Has f below ins → Under f ins floor (Some (floor + length below))
  missing : ((below : List Kind) → Has f below ins → ⊥) → Under f ins floor None

-- a signature whose number holds each kind in a byte of its own
pub record Small (ins outs : List Kind) : Type 0 where
  pub few : length ins ≤ 3
  pub one : length outs ≤ 1
  pub some : 0 < packed (some (ins ⇒ outs))

-- kinds left over those below: the stack's depth then
pub data Leaves (below outs : List Kind) (kinds : List ℕ) : Result ℕ ℕ → Type 0 where
  too_many : stack_limit < length (below ++ outs) → Leaves below outs kinds (Err DEEP)
  left : {d : ℕ} → length (below ++ outs) ≤ stack_limit → KindBytes kinds d (below ++ outs) → Leaves below outs kinds (Ok d)

-- operands taken and results left: the same
pub data Applies (outer : List Kind) (f : Frame) (ins outs : List Kind) (kinds : List ℕ) : Result ℕ ℕ → Type 0 where
  lacks : ((below : List Kind) → Has f below ins → ⊥) → Applies outer f ins outs kinds (Err OPERAND)
  over : (below : List Kind) → Has f below ins → stack_limit < length (outer ++ (below ++ outs)) → Applies outer f ins outs kinds (Err DEEP)
  fits : {d : ℕ} (below : List Kind) → Has f below ins → length (outer ++ (below ++ outs)) ≤ stack_limit → KindBytes kinds d (outer ++ (below ++ outs))
      → Applies outer f ins outs kinds (Ok d)
