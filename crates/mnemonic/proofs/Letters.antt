-- The bytes of names: none is a blank, an end of line or a bracket, so that a name ends where it does.
use Prim.Native.Nat.{ℕ, ◌≤◌}
use mathlib.Core.Bool.{Bool, true, ◌&&◌, ◌||◌}
use mathlib.Core.List.{List, [], ◌∷◌}
use mathlib.Core.Logic.{⊎_elim}
use native.Mathlib.Omega.{arith}
use lib.Dec.{T, leb, leb→le}
use mir.Facts.{and_yes, or_yes}
use Rattle.mnemonic.specs.Letters.{Letter, Letters}

-- ---- by a test

abbrev letter : ℕ → Bool
letter b = leb 46 b && (leb b 90 || (leb 94 b && leb b 122))

abbrev pub letters : List ℕ → Bool
letters [] = true
letters (b ∷ bs) = letter b && letters bs

is-letter : (b : ℕ) → T (letter b) → Letter b
is-letter b t =
    let both = and_yes (leb 46 b) (leb b 90 || (leb 94 b && leb b 122)) t in
    let low : 46 ≤ b = leb→le 46 b both.0 in
    ⊎_elim
    (λ h. let l : b ≤ 90 = leb→le b 90 h in record { low = low; high = omega arith; no_opening = λ e. omega arith; no_closing = λ e. omega arith })
    (λ h.
    let more = and_yes (leb 94 b) (leb b 122) h in
    let m : 94 ≤ b = leb→le 94 b more.0 in
    record { low = low; high = leb→le b 122 more.1; no_opening = λ e. omega arith; no_closing = λ e. omega arith })
    (or_yes (leb b 90) (leb 94 b && leb b 122) both.1)

pub are-letters : (n : List ℕ) → T (letters n) → Letters n
are-letters [] t = tt
are-letters (b ∷ bs) t = let both = and_yes (letter b) (letters bs) t in (is-letter b both.0, are-letters bs both.1)
