-- Copying bytes, one a turn.
use Prim.Native.Nat.{ℕ, zero, suc, ◌+◌, ◌-◌, ◌≤◌, ◌<◌}
use mathlib.Core.Path.{◌≡◌, ap, sym, ◌∙◌}
use mathlib.Core.List.{List, ◌++◌}
use native.Mathlib.Nat.{sub-zero, zero-add}
use native.Mathlib.Numerals.{add-one}
use native.Mathlib.Omega.{arith}
use lib.ListN.{replicate, length, get_or, set, take, drop, length-drop}
use lib.Seq.{paste, paste-suc, length-take-le}
use Rattle.machine.specs.Memory.{part, padded, stored}

-- a turn of a loop that copies
pub turn : (d : List ℕ) (at : ℕ) (s e : List ℕ) (j x : ℕ) → e ≡ paste d at s j → x ≡ get_or s j 0 → at + j < length d → j < length s
    → set e (at + j) x ≡ paste d at s (j + 1)
turn d at s e j x p q hd hs = rw (p, q, add-one j, paste-suc d at s j 0 hd hs)

drop-zeros : (n m : ℕ) → n ≤ m → drop {A = ℕ} n (replicate m 0) ≡ replicate (m - n) 0
drop-zeros zero m h = ap (λ (j : ℕ). replicate j 0) (sym (sub-zero m))
drop-zeros (suc n) zero h = absurd (omega arith)
drop-zeros (suc n) (suc m) h = let e : m - n ≡ suc m - suc n = omega arith in drop-zeros n m (omega arith) ∙ ap (λ (j : ℕ). replicate j 0) e

-- n bytes copied over sixteen zeros
pub copied : (s : List ℕ) (at n : ℕ) → n ≤ 16 → at + n ≤ length s → paste (replicate 16 0) 0 (drop at s) n ≡ padded (part n at s)
copied s at n h l =
    ap (λ (z : List ℕ). part n at s ++ z) (ap (λ (j : ℕ). drop {A = ℕ} j (replicate 16 0)) (zero-add n) ∙ drop-zeros n 16 h ∙ ap (λ (j : ℕ). replicate (16 - j) 0) (sym long))
  where
    long : length (part n at s) ≡ n
    long = length-take-le n (drop at s) (simp length-drop (omega arith))

-- n bytes of v copied into d
pub overwritten : (d : List ℕ) (at : ℕ) (v : List ℕ) (n : ℕ) → n ≤ length v → paste d at v n ≡ stored d at (take n v)
unfolding stored
overwritten d at v n h = ap (λ (j : ℕ). take at d ++ take n v ++ drop (at + j) d) (sym (length-take-le n v h))
