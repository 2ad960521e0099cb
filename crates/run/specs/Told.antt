-- What the answer of a run or of a resume tells (01, "Numbers on the inspector's card"; 02, C-14): the steps are the standard machine's, and what is
-- left is what it has left.
use Rattle.std.specs.Prelude.{ℕ, suc, ◌*◌, ◌≤◌, ◌<◌, ◌≡◌, List, [], ◌∷◌, ◌⊎◌, length, drop}
use Rattle.std.proofs.Math.Option.{Option, none, some}
use Rattle.card.specs.Card.{DONE, LABEL, ROOM, ARGS, OUT, FORM, SMALL, IMAGE, TRAP, BUDGET}
use Rattle.limits.specs.Limits.{slot}
use Rattle.machine.specs.Value.{Value, all_bytes}
use Rattle.image.specs.Image.{image_bytes}
use Rattle.rules.specs.Header.{Header}
use Rattle.rules.specs.Strip.{Valid}
use Rattle.standard.specs.Standard.{Config, going, ended, trapped, step, runs}
use Rattle.standard.specs.Safety.{Strays, Finishes, Sound, Placed}
use Rattle.run.specs.Meter.{Left, leaves, paused}
use Rattle.run.specs.Call.{Fails, AllWell, Asks, TurnsAway}
use Rattle.run.specs.Run.{Slots, Roomy}
use Rattle.run.specs.Resume.{Pictures}

-- the machine starts from b; the results' buffer was out, the image's img
module _ (s : List ℕ) (h : Header) (b : Config) (out : List ℕ) (img : Option (List ℕ)) (budget : ℕ) where
  pub data Told : Left → Type 0 where
    -- the strip's `end`, or a branch out of it, is the last of k + 1 steps, and writes sixteen bytes for each result
    told_done : (k : ℕ) {c : Config} {vs : List Value} {m : List ℕ} → suc k ≤ budget → runs s h k b ≡ going c → step s h c ≡ ended vs m
        → Finishes s h c vs m → length (all_bytes vs) ≡ slot * length h.results → Told (leaves DONE 0 (suc k) m (all_bytes vs) img)
    -- at an access past the memory's end; the step after k does not count
    told_trap : (k : ℕ) {c : Config} {a n : ℕ} → k < budget → runs s h k b ≡ going c → step s h c ≡ trapped a n → Strays s h c a n
        → Told (leaves TRAP c.place k c.state.memory out img)
    -- with the image of where it is
    told_budget : {c : Config} → runs s h budget b ≡ going c → Told (leaves BUDGET c.place budget c.state.memory out (paused c img))

-- one of these codes
abbrev pub OneOf : List ℕ → ℕ → Type 0
OneOf [] c = ⊥
OneOf (k ∷ ks) c = (c ≡ k) ⊎ OneOf ks c

-- a code of the card that a call answers, whose questions have these
abbrev pub OnCard : List ℕ → ℕ → Type 0
OnCard codes c = (c ≤ LABEL) ⊎ OneOf codes c ⊎ (c ≡ TRAP) ⊎ (c ≡ BUDGET)

abbrev pub run_codes : Option (List ℕ) → List ℕ
run_codes none = ROOM ∷ ARGS ∷ OUT ∷ FORM ∷ []
run_codes (some buffer) = ROOM ∷ ARGS ∷ OUT ∷ FORM ∷ SMALL ∷ []

abbrev pub resume_codes : List ℕ
resume_codes = ROOM ∷ OUT ∷ SMALL ∷ IMAGE ∷ []

-- turned away, for its breach or by what is asked then, with everything as it was; or all was in order, and this is told of the machine
module _ (s mem out : List ℕ) (img : Option (List ℕ)) (budget : ℕ) (asks : Asks) (Starts : Header → Config → Type 0) where
  pub data Called : Left → Type 0 where
    turned_away : {code place : ℕ} → TurnsAway s asks code place → Called (leaves code place 0 mem out img)
    told : (v : Valid s) (c : Config) {x : Left} → AllWell (asks v.header) → Starts v.header c → Told s v.header c out img budget x → Called x

-- what is so of a run and of a resume: the machine starts in a sound state over the memory that is lent, with the labels of its place; the buffers are
-- asked for, and the questions have codes below those of the machine
pub record Orderly (s mem out : List ℕ) (img : Option (List ℕ)) (asks : Asks) (Starts : Header → Config → Type 0) (codes : List ℕ) : Type 0 where
  pub sound : (v : Valid s) (c : Config) → Starts v.header c → Sound s v.header c × (c.state.memory ≡ mem)
  pub placed : (v : Valid s) (c : Config) → Starts v.header c → Placed s v.header c
  pub slots : (v : Valid s) → AllWell (asks v.header) → Slots v.header.results out
  pub roomy : (v : Valid s) → AllWell (asks v.header) → Roomy img
  pub coded : (v : Valid s) (c : ℕ) → Fails (asks v.header) c → OneOf codes c
  pub early : (v : Valid s) (c : ℕ) → Fails (asks v.header) c → c < TRAP

-- the buffer a has become b, which begins with the image of a state at the place, and with the memory, that x leaves: that of the machine after as
-- many steps as the budget (told_budget); beyond the image it is as it was
pub record Pauses (s : List ℕ) (x : Left) (a b : List ℕ) : Type 0 where
  pub valid : Valid s
  pub config : Config
  pub here : config.place ≡ x.answer.place
  pub pictures : Pictures s valid.header x.memory b config
  pub untouched : drop image_bytes b ≡ drop image_bytes a
