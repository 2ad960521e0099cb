-- What a run answers (01, "Numbers on the inspector's card"; 02, C-13, C-14): 1 to 18, then 20, 21, 22, 23, and 24 where an image's buffer is lent;
-- then the standard's machine with a budget.
use Rattle.std.specs.Prelude.{ℕ, ◌*◌, ◌≤◌, ◌≡◌, List, [], ◌∷◌, length}
use Rattle.std.proofs.Math.Option.{Option, none, some}
use Rattle.card.specs.Card.{ROOM, ARGS, OUT, FORM, SMALL}
use Rattle.limits.specs.Limits.{memory_limit, slot}
use Rattle.opcode.specs.Kind.{Kind}
use Rattle.machine.specs.Value.{Value}
use Rattle.image.specs.Slots.{InSlots}
use Rattle.image.specs.Image.{image_bytes}
use Rattle.rules.specs.Header.{Header}
use Rattle.standard.specs.Standard.{Config, begin}
use Rattle.run.specs.Meter.{Left}
use Rattle.run.specs.Call.{◌or◌, Asks, Calls}

-- a buffer of sixteen bytes for each of these kinds
abbrev pub Slots : List Kind → List ℕ → Type 0
Slots ks bs = length bs ≡ slot * length ks

-- an image's buffer has room for one; where none is lent nothing is asked
abbrev pub Roomy : Option (List ℕ) → Type 0
Roomy none = Unit {0}
Roomy (some buffer) = image_bytes ≤ length buffer

-- what is asked of a strip that keeps every rule
abbrev pub run_asks : List ℕ → List ℕ → List ℕ → Option (List ℕ) → Asks
run_asks args mem out img h =
    ((length mem ≤ memory_limit) or ROOM)
    ∷ (Slots h.parameters args or ARGS)
    ∷ (Slots h.results out or OUT)
    ∷ (((vs : List Value) × InSlots h.parameters args vs) or FORM)
    ∷ (Roomy img or SMALL)
    ∷ []

-- the machine starts with the arguments, in the form that the header declares
pub record Begins (args mem : List ℕ) (h : Header) (c : Config) : Type 0 where
  pub values : List Value
  pub given : InSlots h.parameters args values
  pub begins : c ≡ begin h values mem

abbrev pub Runs : List ℕ → List ℕ → List ℕ → List ℕ → Option (List ℕ) → ℕ → Left → Type 0
Runs s args mem out img budget = Calls s mem out img budget (run_asks args mem out img) (Begins args mem)
