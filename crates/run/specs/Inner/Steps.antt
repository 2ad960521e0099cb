-- Inner: what the parts of a run are asked, and leave.
use Rattle.std.specs.Prelude.{ℕ, ◌+◌, ◌*◌, ◌≤◌, ◌≡◌, cond, List, eqb, ltb, length}
use Rattle.std.proofs.Math.Option.{Option, none, some}
use Rattle.card.specs.Card.{DONE, BUDGET}
use Rattle.card.specs.declared.Answer.{Answer}
use Rattle.limits.specs.Limits.{memory_limit, nest_limit}
use Rattle.machine.specs.Value.{Value}
use Rattle.image.specs.Slots.{InSlots}
use Rattle.image.specs.Image.{image_bytes, painted}
use Rattle.rules.specs.Header.{Header, locals}
use Rattle.rules.specs.Strip.{Valid}
use Rattle.standard.specs.Standard.{Config, whole_stack, begin}
use Rattle.run.specs.Meter.{leaves, meter, paused}
use Rattle.run.specs.Call.{TurnsAway}
use Rattle.run.specs.Run.{Slots, run_asks}
use Rattle.run.specs.Resume.{Pictures}
use Rattle.run.specs.Inner.Carried.{Marked, open_in, Carries}

-- all that is asked before the first instruction is in order, but for the image's buffer
pub record Prepared (s args mem out : List ℕ) : Type 0 where
  pub valid : Valid s
  pub values : List Value
  pub given : InSlots valid.header.parameters args values
  pub slots : Slots valid.header.results out
  pub room : length mem ≤ memory_limit

-- what is asked of it, whether an image's buffer is lent or not
pub data Asked (s args mem out : List ℕ) (r : Answer) : Type 0 where
  turned : r.steps ≡ 0 → (r.code ≡ DONE → ⊥) → ((img : Option (List ℕ)) → TurnsAway s (run_asks args mem out img) r.code r.place) → Asked s args mem out r
  well : r.code ≡ DONE → Prepared s args mem out → Asked s args mem out r

-- a buffer that is too short for an image is none
abbrev pub lent : List ℕ → Option (List ℕ)
lent buffer = cond (ltb (length buffer) image_bytes) none (some buffer)

-- from the configuration c on: where the budget is spent, the arrays hold where it is
pub data Went (s : List ℕ) (h : Header) (budget : ℕ) (c : Config) (out : List ℕ) (code place steps depth : ℕ) (mem results stack marks locals : List ℕ) : Type 0 where
  stops : (code ≡ BUDGET → ⊥) → ((img : Option (List ℕ)) → leaves code place steps mem results img ≡ meter s h budget 0 c out img)
      → Went s h budget c out code place steps depth mem results stack marks locals
  pauses : code ≡ BUDGET → (d : Config) → Carries s h d place depth (open_in marks) stack marks locals mem
      → ((img : Option (List ℕ)) → leaves code place steps mem results (paused d img) ≡ meter s h budget 0 c out img)
      → Went s h budget c out code place steps depth mem results stack marks locals

-- what a stop leaves of an image's buffer: only where the budget is spent it is written
abbrev pub pictured : ℕ → ℕ → ℕ → List ℕ → List ℕ → List ℕ → List ℕ
pictured code place depth locals stack buffer = cond (eqb code BUDGET) (painted place depth locals stack buffer) buffer

-- and then this is left of what is lent
pub record Drove (s args mem out buffer : List ℕ) (budget code place steps : ℕ) (mem' out' buffer' : List ℕ) : Type 0 where
  pub ready : Prepared s args mem out
  pub same : leaves code place steps mem' out' (lent buffer')
      ≡ meter s ready.valid.header budget 0 (begin ready.valid.header ready.values mem) out (lent buffer)

-- an image shows where to go on, and the marks are those of the blocks there
pub record Resumable (s mem out buffer marks : List ℕ) (place depth count : ℕ) : Type 0 where
  pub valid : Valid s
  pub config : Config
  pub pictures : Pictures s valid.header mem buffer config
  pub place_is : config.place ≡ place
  pub depth_is : length (whole_stack config) ≡ depth
  pub counted : count ≡ length (locals valid.header)
  pub many : length config.labels ≡ open_in marks
  pub marked : Marked config.labels marks
  pub marks_long : length marks ≡ 3 * nest_limit + 1
  pub slots : Slots valid.header.results out

-- and then this is left of what is lent
pub record Resumed (s mem out buffer marks : List ℕ) (place depth count budget code at steps : ℕ) (mem' out' buffer' : List ℕ) : Type 0 where
  pub ready : Resumable s mem out buffer marks place depth count
  pub same : leaves code at steps mem' out' (lent buffer') ≡ meter s ready.valid.header budget 0 ready.config out (lent buffer)
