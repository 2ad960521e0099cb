-- Words with single blanks between them.
use Rattle.std.specs.Prelude.{ℕ, ◌≡◌, List, [], ◌∷◌, ◌++◌}

abbrev pub blank : ℕ
blank = 32

abbrev pub newline : ℕ
newline = 10

unfoldable pub joined : List (List ℕ) → List ℕ
joined [] = []
joined (w ∷ []) = w
joined (w ∷ v ∷ vs) = w ++ blank ∷ joined (v ∷ vs)

abbrev pub Every : {A : Type 0} → (A → Type 0) → List A → Type 0
Every P [] = Unit {0}
Every P (x ∷ xs) = P x × Every P xs

-- no byte is b
abbrev pub Without : ℕ → List ℕ → Type 0
Without b xs = Every (λ x. x ≡ b → ⊥) xs

abbrev pub AllWithout : ℕ → List (List ℕ) → Type 0
AllWithout b ws = Every (Without b) ws
