-- What a name is made of, so that a line's words can be told apart: no blank, no end of line, no bracket.
use Rattle.std.specs.Prelude.{ℕ, ◌≤◌, List, [], ◌∷◌, ◌≢◌}

pub record Letter (b : ℕ) : Type 0 where
  pub low : 46 ≤ b
  pub high : b ≤ 122
  pub no_opening : b ≢ 91
  pub no_closing : b ≢ 93

abbrev pub Letters : List ℕ → Type 0
Letters [] = Unit {0}
Letters (b ∷ bs) = Letter b × Letters bs
