-- A listing with its places aside (02, C-11): each line without its first word and the blank after it.
use Rattle.std.specs.Prelude.{ℕ, Bool, true, false, not, List, [], ◌∷◌, eqb}
use Rattle.text.specs.Words.{blank, newline}

-- true: inside a place, or at the front of a line
abbrev pub aside_from : Bool → List ℕ → List ℕ
aside_from t [] = []
aside_from true (b ∷ bs) = aside_from (not (eqb b blank)) bs
aside_from false (b ∷ bs) = b ∷ aside_from (eqb b newline) bs

unfoldable pub places_aside : List ℕ → List ℕ
places_aside text = aside_from true text
