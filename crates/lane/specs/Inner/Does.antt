-- Inner: what a closure that is passed to a loop does to the bits of lanes.
use Rattle.std.specs.Prelude.{ℕ, ◌≡◌}

-- `gives x r`: the closure may answer r at x. `taken` and `given` are the bits of what it takes and gives.
abbrev pub Does1 : {A B : Type 0} → (A → B → Type 0) → (A → ℕ) → (B → ℕ) → (ℕ → ℕ) → Type 0
Does1 {A} {B} gives taken given op = (x : A) (r : B) → gives x r → given r ≡ op (taken x)

abbrev pub Does2 : {A B : Type 0} → (A → A → B → Type 0) → (A → ℕ) → (B → ℕ) → (ℕ → ℕ → ℕ) → Type 0
Does2 {A} {B} gives taken given op = (x y : A) (r : B) → gives x y r → given r ≡ op (taken x) (taken y)
