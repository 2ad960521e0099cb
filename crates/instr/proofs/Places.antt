-- What stands at a place of a file, and what stands behind it.
use Prim.Native.Nat.{ℕ, ◌+◌, ◌<◌, ◌^◌}
use mathlib.Core.Bool.{Bool, true}
use mathlib.Core.List.{List, [], ◌∷◌, ◌++◌, append_assoc}
use mathlib.Core.Path.{◌≡◌, refl, sym, ap, ◌∙◌}
use native.Mathlib.Nat.{add-zero}
use native.Mathlib.Omega.{arith}
use lib.ListN.{length, get_or, drop, length-drop}
use lib.Seq.{drop-drop, drop-append_seam, get_or-drop}
use Rattle.leb128.specs.Bits.{integer}
use Rattle.leb128.specs.Grammar.{Written}
use Rattle.leb128.specs.Number.{number_of, number_at}
use Rattle.leb128.proofs.Exact.{stands-reads}
use Rattle.opcode.specs.BlockType.{is_block_type}
use Rattle.instr.specs.Layout.{Below}
use Rattle.instr.specs.Decode.{got, number_item, byte_at, lane_at, block_at, lanes_at}
use Rattle.instr.proofs.Items.{number-item, byte-there, lane-good, block-good}

module _ (s : List ℕ) where
  pub past : (p : ℕ) (xs rest : List ℕ) → drop p s ≡ xs ++ rest → drop (p + length xs) s ≡ rest
  past p xs rest e = sym (drop-drop (length xs) p s) ∙ ap (drop (length xs)) e ∙ drop-append_seam xs rest

  -- the first of some bytes, and the others after it
  pub first_of : (p : ℕ) (bs xs ys rest : List ℕ) → drop p s ≡ bs ++ rest → bs ≡ xs ++ ys → drop p s ≡ xs ++ (ys ++ rest)
  first_of p bs xs ys rest e f = e ∙ ap (λ (l : List ℕ). l ++ rest) f ∙ append_assoc xs ys rest

  pub others-of : (p : ℕ) (bs xs ys rest : List ℕ) → drop p s ≡ bs ++ rest → bs ≡ xs ++ ys → drop (p + length xs) s ≡ ys ++ rest
  others-of p bs xs ys rest e f = past p xs (ys ++ rest) (first_of p bs xs ys rest e f)

  pub byte-here : (p b : ℕ) (bs xs ys rest : List ℕ) → drop p s ≡ bs ++ rest → bs ≡ xs ++ ys → xs ≡ b ∷ [] → drop p s ≡ b ∷ (ys ++ rest)
  byte-here p b bs xs ys rest e f g = first_of p bs xs ys rest e f ∙ ap (λ (l : List ℕ). l ++ (ys ++ rest)) g

  -- each item is what stands there
  module _ (p b : ℕ) (rest : List ℕ) (e : drop p s ≡ b ∷ rest) where
    inside : p < length s
    inside = omega (arith, length-drop p s, ap length e)

    is : get_or s p 0 ≡ b
    is = ap (λ (k : ℕ). get_or s k 0) (sym (add-zero p)) ∙ sym (get_or-drop p s 0 0) ∙ ap (λ (l : List ℕ). get_or l 0 0) e

    pub byte-back : byte_at s p ≡ got b (p + 1)
    byte-back = byte-there s p inside ∙ ap (λ (x : ℕ). got x (p + 1)) is

    pub lane-back : (n : ℕ) → b < n → lane_at n s p ≡ got b (p + 1)
    lane-back n h = lane-good s p n inside (omega (arith, is)) ∙ ap (λ (x : ℕ). got x (p + 1)) is

    pub block_back : is_block_type b ≡ true → block_at s p ≡ got b (p + 1)
    block_back h = block-good s p inside (ap is_block_type is ∙ h) ∙ ap (λ (x : ℕ). got x (p + 1)) is

  pub lanes-back : (xs : List ℕ) (p : ℕ) (rest : List ℕ) → drop p s ≡ xs ++ rest → Below 32 xs → lanes_at (length xs) s p ≡ got 0 (p + length xs)
  unfolding lanes_at
  lanes-back [] p rest e h = ap (got 0) (sym (add-zero p))
  lanes-back (x ∷ xs) p rest e h =
      rw (lane-back p x (xs ++ rest) e 32 h.0)
      (lanes-back xs (p + 1) rest (past p (x ∷ []) (xs ++ rest) e) h.1 ∙ ap (got 0) (omega arith))

  module _ (sign : Bool) (N v p : ℕ) (bs rest : List ℕ) (o : 0 < N) (h : v < 2 ^ N) (e : drop p s ≡ bs ++ rest) (w : Written sign N bs (integer sign N v)) where
    pub number-back : number_at sign N s p ≡ number_of v (length bs)
    number-back = stands-reads sign N s p o v (length bs) h (record { bytes = bs; rest = rest; here = e; long = refl; writes = w })

    pub item_back : number_item sign N s p ≡ got v (p + length bs)
    item_back = number-item s sign N p (number_of v (length bs)) number-back
