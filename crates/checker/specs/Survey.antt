-- The check of a strip that also tells what is known at one place of it, in the same walk: what a run that goes on there needs of the kinds on the
-- stack and of the blocks around the place (02, C-14).
use Rattle.std.specs.Prelude.{ℕ, Bool, cond, List, [], ◌∷◌, ◌++◌, map, length, drop, Some, None, Ok, Err}
use Rattle.std.specs.declared.option.Option.{Option}
use Rattle.std.specs.declared.result.Result.{Result}
use Rattle.opcode.specs.Kind.{Kind, kind_byte}
use Rattle.rules.specs.Typing.{Frame, all_values, Live}
use Rattle.rules.specs.Strip.{Reaches, Valid}
use Rattle.rules.specs.Around.{Around}
use Rattle.rules.specs.Breach.{Breach}
use Rattle.checker.specs.declared.Refusal.{Refusal}
use Rattle.checker.specs.declared.place.Surveyed.{Surveyed}

-- what a branch does: a loop, or how many values a branch to a block takes along
abbrev pub LOOP : ℕ
LOOP = 2

abbrev pub way : Bool → List Kind → ℕ
way loop results = cond loop LOOP (length results)

-- of each block around a place, the outermost first: how many values are under it, what a branch to it does, and where its body begins; the strip
-- itself is no block
abbrev pub marks_of : List Frame → List ℕ → List ℕ
marks_of [] bs = []
marks_of (f ∷ fs) [] = []
marks_of (f ∷ fs) (b ∷ bs) = marks_of fs bs ++ (length (all_values fs) ∷ way f.loop f.results ∷ b ∷ [])

-- an array with these from its front on
abbrev pub fronted : List ℕ → List ℕ → List ℕ
fronted xs old = xs ++ drop (length xs) old

abbrev pub found : ℕ → ℕ → Surveyed
found d n = record { depth = d; nest = n }

-- a strip that breaks a rule; or that keeps them all: an instruction of it stands at the place, in no dead code, with what is known there; or none does
module _ (s : List ℕ) (at : ℕ) (kinds marks : List ℕ) where
  pub data Surveys : Result (Option Surveyed) Refusal → List ℕ → List ℕ → Type 0 where
    breaks : {e : Refusal} → Breach s e.code e.place → Surveys (Err e) kinds marks
    misses : (v : Valid s) → ((fs : List Frame) → Reaches s v.header at fs → Live fs → ⊥) → Surveys (Ok None) kinds marks
    finds : (v : Valid s) {fs : List Frame} {bs : List ℕ} → Reaches s v.header at fs → Live fs → Around s v.header at bs
        → Surveys (Ok (Some (found (length (all_values fs)) (length bs)))) (fronted (map kind_byte (all_values fs)) kinds) (fronted (marks_of fs bs) marks)
