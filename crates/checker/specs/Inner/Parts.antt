-- Inner: the header and the instructions, apart.
use Rattle.std.specs.Prelude.{ℕ, ◌+◌, ◌<◌, ◌≤◌, ◌≡◌, Bool, List, [], ◌∷◌, ◌++◌, map, length, drop, Ok, Err}
use Rattle.std.specs.declared.result.Result.{Result}
use Rattle.card.specs.Card.{SHORT, KIND}
use Rattle.opcode.specs.Kind.{Kind, kind_byte}
use Rattle.opcode.specs.Table.{End, plain}
use Rattle.instr.specs.declared.Instr.{Instr}
use Rattle.rules.specs.Header.{Header, Declares, locals}
use Rattle.rules.specs.Typing.{Frame}
use Rattle.rules.specs.Breach.{At}
use Rattle.checker.specs.declared.Refusal.{Refusal}
use Rattle.checker.specs.Inner.Stack.{Top}
use Rattle.checker.specs.Inner.Blocks.{top_first}

-- a line of the card, and its place
abbrev pub refusal : ℕ → ℕ → Refusal
refusal c p = record { code = c; place = p }

-- n kind bytes from place 8 on
pub data KindsSay (s : List ℕ) (n : ℕ) : Result (Unit {0}) Refusal → Type 0 where
  cut : (ks : List Kind) → length ks < n → drop 8 s ≡ map kind_byte ks → KindsSay s n (Err (refusal SHORT (length s)))
  other : (ks : List Kind) (b : ℕ) (rest : List ℕ) → length ks < n → drop 8 s ≡ map kind_byte ks ++ b ∷ rest → ((k : Kind) → b ≡ kind_byte k → ⊥)
      → KindsSay s n (Err (refusal KIND (8 + length ks)))
  all : (ks : List Kind) (rest : List ℕ) → length ks ≡ n → drop 8 s ≡ map kind_byte ks ++ rest → KindsSay s n (Ok tt)

-- the version, and how many locals and results the header declares
pub record Counts (s : List ℕ) (version n r : ℕ) (h : Header) : Type 0 where
  pub declares : Declares s h
  pub version_is : h.version ≡ version
  pub locals_are : length (locals h) ≡ n
  pub results_are : length h.results ≡ r

-- the strip's own `end` was read at a place that all before it reaches
pub record AtEnd (s : List ℕ) (version takes at : ℕ) (kinds : List ℕ) (depth : ℕ) (dead : Bool) : Type 0 where
  pub header : Header
  pub declares : Declares s header
  pub takes_is : top_first header.results ≡ takes
  pub strip : Frame
  pub results_are : strip.results ≡ header.results
  pub top : Top kinds depth 0 dead [] strip
  pub long : depth ≤ length kinds
  pub final : Instr
  pub here : At s header at (strip ∷ []) final (plain End)
