-- Bytes stored into bytes: the length stays, what was stored is there, and the rest is as it was.
use Prim.Native.Nat.{ℕ, ◌+◌, ◌-◌, ◌≤◌, ◌<◌, min}
use mathlib.Core.Path.{◌≡◌, ap, sym, ◌∙◌}
use mathlib.Core.List.{List, ◌++◌, append_assoc}
use mathlib.Core.Logic.{◌⊎◌, inl, inr}
use native.Mathlib.Omega.{arith}
use lib.ListN.{length, get_or, take, drop, length-append, length-take, length-drop, get_or-append}
use lib.Seq.{length-take-le, get_or-take, get_or-drop, ext_get_or, get_or-append-add, drop_at, take_at}
use Rattle.machine.specs.Memory.{part, stored}

module _ (s : List ℕ) (at : ℕ) (v : List ℕ) (h : at + length v ≤ length s) where
  head-long : length (take at s) ≡ at
  head-long = length-take-le at s (omega arith)

  both_long : length (take at s ++ v) ≡ at + length v
  both_long = length-append (take at s) v ∙ omega (arith, head-long)

  pub length-stored : length (stored s at v) ≡ length s
  unfolding stored
  length-stored = length-append (take at s ++ v) (drop (at + length v) s) ∙ omega (arith, both_long, length-drop (at + length v) s)

  before : (k : ℕ) → k < at → get_or (stored s at v) k 0 ≡ get_or s k 0
  unfolding stored
  before k l =
      get_or-append (take at s ++ v) (drop (at + length v) s) 0 k (omega (arith, both_long))
      ∙ get_or-append (take at s) v 0 k (omega (arith, head-long)) ∙ get_or-take at s k 0 l

  after : (k : ℕ) → at + length v ≤ k → get_or (stored s at v) k 0 ≡ get_or s k 0
  unfolding stored
  after k l =
      let e : length (take at s ++ v) + (k - (at + length v)) ≡ k = omega (arith, both_long) in
      let f : at + length v + (k - (at + length v)) ≡ k = omega arith in
      ap (λ (j : ℕ). get_or (take at s ++ v ++ drop (at + length v) s) j 0) (sym e)
      ∙ get_or-append-add (take at s ++ v) (drop (at + length v) s) (k - (at + length v)) 0
      ∙ get_or-drop (at + length v) s (k - (at + length v)) 0 ∙ ap (λ (j : ℕ). get_or s j 0) f

  -- a part that is not touched
  pub part-other : (n b : ℕ) → (b + n ≤ at) ⊎ (at + length v ≤ b) → part n b (stored s at v) ≡ part n b s
  part-other n b o =
      ext_get_or 0 (part n b (stored s at v)) (part n b s)
      (length-take n (drop b (stored s at v)) ∙ ap (min n) (length-drop b (stored s at v) ∙ ap (λ (j : ℕ). j - b) length-stored ∙ sym (length-drop b s)) ∙ sym (length-take n (drop b s)))
      (λ i l. let q : i < n = omega (arith, length-take n (drop b (stored s at v))) in
      get_or-take n (drop b (stored s at v)) i 0 q ∙ get_or-drop b (stored s at v) i 0 ∙ go o i q ∙ sym (get_or-drop b s i 0) ∙ sym (get_or-take n (drop b s) i 0 q))
    where
      go : (b + n ≤ at) ⊎ (at + length v ≤ b) → (i : ℕ) → i < n → get_or (stored s at v) (b + i) 0 ≡ get_or s (b + i) 0
      go (inl e) i q = before (b + i) (omega arith)
      go (inr e) i q = after (b + i) (omega arith)

  -- the part that was stored
  pub part_same : (n : ℕ) → length v ≡ n → part n at (stored s at v) ≡ v
  unfolding stored
  part_same n e =
      ap (λ (l : List ℕ). take n (drop at l)) (append_assoc (take at s) v (drop (at + length v) s))
      ∙ ap (take n) (drop_at (take at s) (v ++ drop (at + length v) s) at head-long)
      ∙ take_at v (drop (at + length v) s) n e
