-- A listing line by line, for those who have no room for all of it: the check's walk over the strip, and a line at each step.
use Rattle.std.specs.Prelude.{ℕ, ◌+◌, ◌*◌, ◌≡◌, List, ◌++◌, length, drop}
use Rattle.limits.specs.Limits.{stack_limit}
use Rattle.rules.specs.Typing.{all_values}
use Rattle.checker.specs.declared.turns.State.{State}
use Rattle.checker.specs.Walk.{Steps}
use Rattle.listing.specs.Line.{line}
use Rattle.listing.specs.declared.Next.{Next}

-- no line is longer
abbrev pub longest : ℕ
longest = 5 * stack_limit + 393

-- the line of the instruction that a step is over
abbrev pub line_of : {s : List ℕ} {p : ℕ} {kinds blocks kinds' blocks' : List ℕ} {state state' : State} → Steps s p kinds blocks state kinds' blocks' state' → List ℕ
line_of {p = p} w = line p (all_values w.before.frames) w.instr

-- one step, and its line, from the front of the text on, none of whose bytes beyond it is touched
pub record Walked (s : List ℕ) (p : ℕ) (kinds blocks : List ℕ) (state : State) (text : List ℕ) (r : Next) (kinds' blocks' text' : List ℕ) : Type 0 where
  pub steps : Steps s p kinds blocks state kinds' blocks' r.state
  pub at : r.at ≡ p + steps.size
  pub len : r.len ≡ length (line_of steps)
  pub bytes : text' ≡ line_of steps ++ drop r.len text
