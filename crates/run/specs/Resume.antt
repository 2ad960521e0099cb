-- What a resume answers (02, C-14): 1 to 18, then 20, 22, 24, 25; then the standard's machine with a budget, from where the image shows it.
use Rattle.std.specs.Prelude.{ℕ, ◌≤◌, ◌≡◌, List, [], ◌∷◌, ◌++◌, length}
use Rattle.std.proofs.Math.Option.{some}
use Rattle.card.specs.Card.{ROOM, OUT, SMALL, IMAGE}
use Rattle.limits.specs.Limits.{memory_limit}
use Rattle.image.specs.Asked.{place_at, Asked}
use Rattle.rules.specs.Header.{Header, locals}
use Rattle.rules.specs.Typing.{Frame, all_values, Live}
use Rattle.rules.specs.Strip.{Reaches}
use Rattle.standard.specs.Standard.{Config}
use Rattle.standard.specs.Safety.{Sound, Placed}
use Rattle.run.specs.Meter.{Left, picture_of}
use Rattle.run.specs.Call.{◌or◌, Asks, Calls}
use Rattle.run.specs.Run.{Slots, Roomy}

-- the buffer begins with the image of c: a sound state of the strip, so at an instruction that stands in no dead code, whose labels are those of the
-- blocks around it; its memory is the one that is lent
pub record Pictures (s : List ℕ) (h : Header) (mem buffer : List ℕ) (c : Config) : Type 0 where
  pub sound : Sound s h c
  pub placed : Placed s h c
  pub memory : c.state.memory ≡ mem
  pub rest : List ℕ
  pub bytes : buffer ≡ picture_of c ++ rest

-- the same in the words of 02, byte by byte: at the place that it tells stands an instruction of a strip that keeps every rule, in no dead code; mark
-- and version are right, the depth is that of the values known there, and what the kinds of the locals and of those values do not use is zero
-- (Picturing.pictured-exact)
pub record Passes (s : List ℕ) (h : Header) (buffer : List ℕ) : Type 0 where
  pub frames : List Frame
  pub reached : Reaches s h (place_at buffer) frames
  pub live : Live frames
  pub asked : Asked (locals h) (all_values frames) buffer

-- what is asked of a strip that keeps every rule
abbrev pub resume_asks : List ℕ → List ℕ → List ℕ → List ℕ → Asks
resume_asks s mem out buffer h =
    ((length mem ≤ memory_limit) or ROOM)
    ∷ (Slots h.results out or OUT)
    ∷ (Roomy (some buffer) or SMALL)
    ∷ (((c : Config) × Pictures s h mem buffer c) or IMAGE)
    ∷ []

abbrev pub Resumes : List ℕ → List ℕ → List ℕ → List ℕ → ℕ → Left → Type 0
Resumes s mem out buffer budget = Calls s mem out (some buffer) budget (resume_asks s mem out buffer) (λ h c. Pictures s h mem buffer c)
