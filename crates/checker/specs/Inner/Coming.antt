-- Inner: the walk at a place, with where the body of each open block begins.
use Rattle.std.specs.Prelude.{ℕ, ◌≡◌, Bool, true, false, List, [], ◌∷◌, length, get_or, Some, None}
use Rattle.std.specs.declared.option.Option.{Option}
use Rattle.limits.specs.Limits.{nest_limit}
use Rattle.rules.specs.Typing.{Frame, Live}
use Rattle.rules.specs.Strip.{Reaches, Valid}
use Rattle.rules.specs.Around.{Around}
use Rattle.checker.specs.declared.turns.State.{State}
use Rattle.checker.specs.Inner.Going.{Going}

-- the bodies begin at these places, the innermost first; an array holds the outermost first
abbrev pub Noted : List ℕ → List ℕ → Type 0
Noted bodies [] = Unit {0}
Noted bodies (b ∷ bs) = (get_or bodies (length bs) 0 ≡ b) × Noted bodies bs

-- all is well up to a place, and these blocks are around it
pub record Coming (s : List ℕ) (version n takes : ℕ) (kinds blocks bodies : List ℕ) (depth nest floor : ℕ) (dead : Bool) (at : ℕ) : Type 0 where
  pub going : Going s version n takes kinds blocks depth nest floor dead at
  pub begun : List ℕ
  pub around : Around s going.header at begun
  pub many : length begun ≡ nest
  pub noted : Noted bodies begun
  pub bodies_long : length bodies ≡ nest_limit

-- what was known when the walk stood at the place; where it never did, a strip that keeps every rule has no instruction there
pub record Stood (s : List ℕ) (version n takes place : ℕ) (kinds blocks bodies : List ℕ) (there : Option State) : Type 0 where
  pub known : (st : State) → there ≡ Some st → Coming s version n takes kinds blocks bodies st.depth st.nest st.floor st.dead place
  pub nowhere : there ≡ None → (v : Valid s) (fs : List Frame) → Reaches s v.header place fs → ⊥

-- whether code is dead
pub record TellsDead (fs : List Frame) (r : Bool) : Type 0 where
  pub dead : r ≡ true → Live fs → ⊥
  pub live : r ≡ false → Live fs
