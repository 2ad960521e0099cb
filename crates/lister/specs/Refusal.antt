-- What the inspector's program prints of a strip that the check turns away (02, C-11: "the check's code and place").
use Rattle.std.specs.Prelude.{ℕ, List, [], ◌∷◌, ◌++◌, length, Option, Some, None}
use Rattle.std.proofs.lemmas.List.Edits.{sets}
use Rattle.text.specs.Decimal.{decimal}
use Rattle.text.specs.Words.{newline, joined}
use Rattle.rules.specs.Strip.{Valid}
use Rattle.rules.specs.Breach.{Breach}

-- in decimal, a blank between, and a line's end
unfoldable pub told : ℕ → ℕ → List ℕ
told code place = joined (decimal code ∷ decimal place ∷ []) ++ newline ∷ []

-- how many bytes are printed, and the buffer that holds them: none of a strip that keeps every rule
pub data PrintsRefusal (s out : List ℕ) : Option ℕ → List ℕ → Type 0 where
  kept : Valid s → PrintsRefusal s out None out
  broken : {code place : ℕ} → Breach s code place → PrintsRefusal s out (Some (length (told code place))) (sets out 0 (told code place))
