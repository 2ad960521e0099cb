-- The standard's machine with a budget (01, "Numbers on the inspector's card"; 02, C-14): the budget is asked before each instruction, a step is
-- counted when it is done, and a run that has spent its budget leaves an image of where it is.
use Rattle.std.specs.Prelude.{ℕ, zero, suc, List, ◌++◌, reverse, drop}
use Rattle.std.proofs.Math.Option.{Option, none, some}
use Rattle.card.specs.Card.{DONE, TRAP, BUDGET}
use Rattle.card.specs.declared.Answer.{Answer}
use Rattle.machine.specs.Value.{all_bytes}
use Rattle.image.specs.Image.{image_bytes, image_of}
use Rattle.rules.specs.Header.{Header}
use Rattle.standard.specs.Standard.{Config, whole_stack, Stage, going, ended, trapped, halted, step}

-- what a run leaves: its answer, the memory, the results' buffer, and the image's, where one is lent
pub record Left : Type 0 where
  pub answer : Answer
  pub memory : List ℕ
  pub results : List ℕ
  pub image : Option (List ℕ)

abbrev pub leaves : ℕ → ℕ → ℕ → List ℕ → List ℕ → Option (List ℕ) → Left
leaves c p n m o i = record { answer = record { code = c; place = p; steps = n }; memory = m; results = o; image = i }

-- the machine stuck: on no card, and no run answers it
abbrev pub STUCK : ℕ
STUCK = 255

-- the image of the machine at c: its place, its locals and its whole stack; the labels follow from the place, and the memory is the caller's
abbrev pub picture_of : Config → List ℕ
picture_of c = image_of c.place c.state.locals (reverse (whole_stack c))

-- it stands in the first bytes of the buffer that is lent for it, and no byte beyond is touched
abbrev pub paused : Config → Option (List ℕ) → Option (List ℕ)
paused c none = none
paused c (some buffer) = some (picture_of c ++ drop image_bytes buffer)

-- n steps are completed, the results' buffer is out, the image's is img: only a budget that is spent writes it
abbrev pub meter_by : ℕ → Config → List ℕ → Option (List ℕ) → (Config → Left) → Stage → Left
meter_by n c out img more (going c') = more c'
meter_by n c out img more (ended vs m) = leaves DONE 0 (suc n) m (all_bytes vs) img
meter_by n c out img more (trapped a k) = leaves TRAP c.place n c.state.memory out img
meter_by n c out img more halted = leaves STUCK c.place n c.state.memory out img

unfoldable pub meter : List ℕ → Header → ℕ → ℕ → Config → List ℕ → Option (List ℕ) → Left
meter s h zero n c out img = leaves BUDGET c.place n c.state.memory out (paused c img)
meter s h (suc k) n c out img = meter_by n c out img (λ c'. meter s h k (suc n) c' out img) (step s h c)
