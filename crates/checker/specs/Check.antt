-- What the check answers (01, "Numbers on the inspector's card"): 0 at place 0 where the strip keeps every rule, else its first breach; no steps.
use Rattle.std.specs.Prelude.{ℕ, ◌≡◌, List}
use Rattle.card.specs.declared.Answer.{Answer}
use Rattle.rules.specs.Breach.{Says}

pub record Checked (s : List ℕ) (r : Answer) : Type 0 where
  pub says : Says s r.code r.place
  pub steps : r.steps ≡ 0
