-- Inner: the instructions up to a place.
use Rattle.std.specs.Prelude.{ℕ, ◌+◌, ◌<◌, ◌≤◌, ◌^◌, ◌≡◌, Bool, List, length, drop}
use Rattle.limits.specs.Limits.{stack_limit, nest_limit}
use Rattle.rules.specs.Header.{Header, Declares, header_bytes, locals}
use Rattle.rules.specs.Typing.{Frame}
use Rattle.rules.specs.Strip.{Reaches}
use Rattle.checker.specs.Walk.{KindBytes, Framed}
use Rattle.checker.specs.Inner.Blocks.{top_first}

-- what the header tells for all of them: the version, how many locals there are, and what the strip's own `end` takes
pub record Setting (s : List ℕ) (version n takes : ℕ) (h : Header) : Type 0 where
  pub declares : Declares s h
  pub version_is : h.version ≡ version
  pub locals_are : KindBytes (drop 8 s) n (locals h)
  pub inside : 8 + n ≤ length s
  pub takes_is : top_first h.results ≡ takes
  pub takes_small : takes < 2 ^ 32

-- the first one's place
pub record Begins (s : List ℕ) (version n takes start : ℕ) : Type 0 where
  pub header : Header
  pub setting : Setting s version n takes header
  pub start_is : length (header_bytes header) ≡ start

-- all is well up to a place, and these frames are open
pub record Going (s : List ℕ) (version n takes : ℕ) (kinds blocks : List ℕ) (depth nest floor : ℕ) (dead : Bool) (at : ℕ) : Type 0 where
  pub header : Header
  pub setting : Setting s version n takes header
  pub frames : List Frame
  pub framed : Framed header.results kinds blocks depth nest floor dead frames
  pub reached : Reaches s header at frames
  pub kinds_long : length kinds ≡ stack_limit
  pub blocks_long : length blocks ≡ nest_limit
