-- Core 2.0, 5.2.2 (Integers): which bytes write which integer of N bits. The first argument is the sign: false for u_n, true for s_n.
use Rattle.std.specs.Prelude.{ℕ, ◌+◌, ◌-◌, ◌^◌, ◌≤◌, ◌<◌, ◌≡◌, Bool, true, false, List, [], ◌∷◌, ◌++◌, length, drop, ℤ, pos, ◌+ℤ◌, ◌-ℤ◌, ◌*ℤ◌}

pub data Written : Bool → ℕ → List ℕ → ℤ → Type 0 where
  u_last : {N n : ℕ} → n < 2 ^ 7 → n < 2 ^ N → Written false N (n ∷ []) (pos n)
  s_low : {N n : ℕ} → n < 2 ^ 6 → n < 2 ^ (N - 1) → Written true N (n ∷ []) (pos n)
  s_high : {N n : ℕ} {z : ℤ} → 2 ^ 6 ≤ n → n < 2 ^ 7 → 2 ^ 7 ≤ n + 2 ^ (N - 1) → z ≡ pos n -ℤ pos (2 ^ 7) → Written true N (n ∷ []) z
  more : {sign : Bool} {N n : ℕ} {m z : ℤ} {bs : List ℕ} → 2 ^ 7 ≤ n → n < 2 ^ 8 → 7 < N → Written sign (N - 7) bs m
      → z ≡ pos (2 ^ 7) *ℤ m +ℤ (pos n -ℤ pos (2 ^ 7)) → Written sign N (n ∷ bs) z

-- the shortest form: bytes that write it, and no bytes that write it are fewer
pub record ShortestForm (sign : Bool) (N : ℕ) (z : ℤ) (bs : List ℕ) : Type 0 where
  pub writes : Written sign N bs z
  pub least : (cs : List ℕ) → Written sign N cs z → length bs ≤ length cs

-- at this place of s stand n bytes that write the integer z
pub record Stands (sign : Bool) (N : ℕ) (s : List ℕ) (at : ℕ) (z : ℤ) (n : ℕ) : Type 0 where
  pub bytes : List ℕ
  pub rest : List ℕ
  pub here : drop at s ≡ bytes ++ rest
  pub long : length bytes ≡ n
  pub writes : Written sign N bytes z

-- s stops before an integer that begins at this place is whole: with some bytes more it would be one
pub record Cut (sign : Bool) (N : ℕ) (s : List ℕ) (at : ℕ) : Type 0 where
  pub missing : List ℕ
  pub some : 0 < length missing
  pub integer : ℤ
  pub writes : Written sign N (drop at s ++ missing) integer

-- neither: the bytes at this place neither write nor begin an integer
pub record Nothing (sign : Bool) (N : ℕ) (s : List ℕ) (at : ℕ) : Type 0 where
  pub none : (z : ℤ) (n : ℕ) → Stands sign N s at z n → ⊥
  pub whole : Cut sign N s at → ⊥
