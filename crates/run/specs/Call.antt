-- A run, or a run that is resumed: what is asked before the first instruction, in order, and then the standard's machine with a budget (01, "Numbers
-- on the inspector's card"; 02, C-14). What the two differ in is the list of the questions and where the machine starts.
use Rattle.std.specs.Prelude.{ℕ, ◌≡◌, List, [], ◌∷◌, ◌⊎◌}
use Rattle.std.proofs.Math.Option.{Option}
use Rattle.rules.specs.Header.{Header}
use Rattle.rules.specs.Strip.{Valid}
use Rattle.rules.specs.Breach.{Breach}
use Rattle.standard.specs.Standard.{Config}
use Rattle.run.specs.Meter.{Left, leaves, meter}

-- P has to be so, or else the answer is this code
infix 20 ◌or◌
pub data Question : Type 1 where
  ◌or◌ : Type 0 → ℕ → Question

-- the first question that is answered with no has this code
abbrev pub Fails : List {1} Question → ℕ → Type 0
Fails [] code = ⊥
Fails ((P or c) ∷ qs) code = ((P → ⊥) × (code ≡ c)) ⊎ (P × Fails qs code)

-- all are answered with yes
abbrev pub AllWell : List {1} Question → Type 0
AllWell [] = Unit {0}
AllWell ((P or c) ∷ qs) = P × AllWell qs

-- what is asked of a strip that keeps every rule
abbrev pub Asks : Type 1
Asks = Header → List {1} Question

-- why a call is turned away: the strip's first breach, or the first of the questions that fails, at place 0
module _ (s : List ℕ) (asks : Asks) where
  pub data TurnsAway : ℕ → ℕ → Type 0 where
    breaks : {c p : ℕ} → Breach s c p → TurnsAway c p
    fails : {c : ℕ} (v : Valid s) → Fails (asks v.header) c → TurnsAway c 0

-- turned away, with nothing changed that is lent; or the standard's machine with the budget, from where it starts
module _ (s mem out : List ℕ) (img : Option (List ℕ)) (budget : ℕ) (asks : Asks) (Starts : Header → Config → Type 0) where
  pub data Calls : Left → Type 0 where
    refused : {c p : ℕ} → TurnsAway s asks c p → Calls (leaves c p 0 mem out img)
    metered : (v : Valid s) (c : Config) → AllWell (asks v.header) → Starts v.header c → Calls (meter s v.header budget 0 c out img)
