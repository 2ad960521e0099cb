-- 01, "Instructions": which fifth byte u32 and s32 allow, and which tenth byte s64.
use Rattle.std.specs.Prelude.{ℕ, suc, ◌≤◌, ◌≡◌, Bool, ◌⊎◌, List, [], ◌∷◌, ◌++◌, length, drop, Err}
use Rattle.leb128.specs.Number.{number_of, number_at}
use Rattle.leb128.specs.declared.reading.NoNumber.TheVariants.{Wrong}

abbrev pub FifthU32 : ℕ → Type 0
FifthU32 b = b ≤ 0x0F

abbrev pub FifthS32 : ℕ → Type 0
FifthS32 b = (b ≤ 0x07) ⊎ ((0x78 ≤ b) × (b ≤ 0x7F))

abbrev pub TenthS64 : ℕ → Type 0
TenthS64 b = (b ≡ 0x00) ⊎ (b ≡ 0x7F)

-- no byte of these is below 128
abbrev pub Going : List ℕ → Type 0
Going [] = Unit {0}
Going (b ∷ bs) = (128 ≤ b) × Going bs

-- where k such bytes stand at the place, and b after them, there is a number of k + 1 bytes if b is allowed, else NUMBER, whatever follows
abbrev pub LastRule : Bool → ℕ → ℕ → (ℕ → Type 0) → Type 0
LastRule sign N k Allowed =
    (s : List ℕ) (at : ℕ) (front : List ℕ) (b : ℕ) (rest : List ℕ) → drop at s ≡ front ++ b ∷ rest → length front ≡ k → Going front
    → (Allowed b → (v : ℕ) × (number_at sign N s at ≡ number_of v (suc k))) × ((Allowed b → ⊥) → number_at sign N s at ≡ Err Wrong)
