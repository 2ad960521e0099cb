-- Parts of a list of bytes: read one by one, as numbers, and as bytes with zeros after them.
use Prim.Native.Nat.{ℕ, suc, ◌+◌, ◌*◌, ◌-◌, ◌^◌, ◌≤◌, ◌<◌}
use mathlib.Core.Path.{◌≡◌, refl, ap, ap₂, sym, ◌∙◌}
use mathlib.Core.List.{List, [], ◌∷◌, ◌++◌}
use native.Mathlib.Numerals.{add-one}
use native.Mathlib.Omega.{arith}
use lib.ListN.{length, get_or, take, drop, replicate, length-append, length-replicate, get_or-replicate}
use lib.Seq.{drop-cons, drop-drop, take-add, take-take, take_at, get_or-take, get_or-drop, get_or-append-add, ext_get_or}
use Rattle.operation.specs.Vector.{le, number}
use Rattle.operation.proofs.Laws.Number.{Bytes, number_append, number_lt, le-number}
use Rattle.machine.specs.Memory.{part}
use Rattle.machine.proofs.Laws.Ranges.{bytes-part, length_part}
use Rattle.image.specs.Image.{filled}
use Rattle.image.specs.Inner.Parts.{Zeros}

-- ---- read one by one

pub first_three : (b : List ℕ) → 3 ≤ length b → take 3 b ≡ get_or b 0 0 ∷ get_or b 1 0 ∷ get_or b 2 0 ∷ []
first_three [] h = absurd (let z : ⊥ = omega arith in z)
first_three (x ∷ []) h = absurd (let z : ⊥ = omega arith in z)
first_three (x ∷ y ∷ []) h = absurd (let z : ⊥ = omega arith in z)
first_three (x ∷ y ∷ z ∷ b) h = refl

module _ (b : List ℕ) where
  two-read : (at : ℕ) → at + 2 ≤ length b → part 2 at b ≡ get_or b at 0 ∷ get_or b (at + 1) 0 ∷ []
  two-read at h =
      ap (take 2) (drop-cons b at 0 (omega arith) ∙ ap (λ (l : List ℕ). get_or b at 0 ∷ l) (drop-cons b (suc at) 0 (omega arith)))
      ∙ ap (λ (n : ℕ). get_or b at 0 ∷ get_or b n 0 ∷ []) (sym (add-one at))

  -- ---- as numbers

  pub two-number : (at : ℕ) → at + 2 ≤ length b → number (part 2 at b) ≡ get_or b at 0 + 256 * get_or b (at + 1) 0
  two-number at h = ap number (two-read at h) ∙ omega arith

  pub part-lt : (n at : ℕ) → at + n ≤ length b → Bytes b → number (part n at b) < 2 ^ (8 * n)
  part-lt n at h bs = rw length_part at (number_lt (part n at b) (bytes-part n at b bs))

  pub part-le : (n at : ℕ) → at + n ≤ length b → Bytes b → le n (number (part n at b)) ≡ part n at b
  part-le n at h bs = ap (λ (k : ℕ). le k (number (part n at b))) (sym (length_part n at b h)) ∙ le-number (part n at b) (bytes-part n at b bs)

  -- four bytes are two and two
  pub four-number : (at : ℕ) → at + 2 ≤ length b → number (part 4 at b) ≡ number (part 2 at b) + 65536 * number (part 2 (at + 2) b)
  four-number at h =
      ap number (take-add 2 2 (drop at b)) ∙ number_append (part 2 at b) (take 2 (drop 2 (drop at b)))
      ∙ ap₂ (λ (l : List ℕ) (n : ℕ). number (take 2 l) * 2 ^ (8 * n) + number (part 2 at b)) (drop-drop 2 at b) (length_part 2 at b h) ∙ omega arith

  -- ---- zeros after them

  pub zeros-part : (n at : ℕ) → at + n ≤ length b → Zeros at (at + n) b → part n at b ≡ replicate n 0
  zeros-part n at h zs =
      let long = length_part n at b h in
      ext_get_or 0 (part n at b) (replicate n 0) (long ∙ sym (length-replicate {A = ℕ} n 0))
      (λ i l. get_or-take n (drop at b) i 0 (omega arith) ∙ get_or-drop at b i 0 ∙ zs (at + i) (omega arith) (omega arith)
      ∙ sym (get_or-replicate n i 0 0 (omega arith)))

  module _ (bs : List ℕ) (at room : ℕ) (inside : at + room ≤ length b) (fit : length bs ≤ room) where
    pub room-filled : part (length bs) at b ≡ bs → Zeros (at + length bs) (at + room) b → part room at b ≡ filled room bs
    room-filled e zs =
        let n = length bs in
        let all : room ≡ n + (room - n) = omega arith in
        let to : at + n + (room - n) ≡ at + room = omega arith in
        ap (λ (k : ℕ). take k (drop at b)) all ∙ take-add n (room - n) (drop at b)
        ∙ ap₂ (λ (x y : List ℕ). x ++ y) e
        (ap (take (room - n)) (drop-drop n at b) ∙ zeros-part (room - n) (at + n) (omega arith) (λ k l m. zs k l (omega arith)))

    module _ (e : part room at b ≡ filled room bs) where
      pub room-front : part (length bs) at b ≡ bs
      room-front = sym (take-take (length bs) room (drop at b) fit) ∙ ap (take (length bs)) e ∙ take_at bs (replicate (room - length bs) 0) (length bs) refl

      pub room-zeros : Zeros (at + length bs) (at + room) b
      room-zeros k l m =
          let i = k - at - length bs in
          let there : at + (length bs + i) ≡ k = omega arith in
          ap (λ (j : ℕ). get_or b j 0) (sym there) ∙ sym (get_or-drop at b (length bs + i) 0) ∙ sym (get_or-take room (drop at b) (length bs + i) 0 (omega arith))
          ∙ ap (λ (x : List ℕ). get_or x (length bs + i) 0) e ∙ get_or-append-add bs (replicate (room - length bs) 0) i 0
          ∙ get_or-replicate (room - length bs) i 0 0 (omega arith)

pub length-filled : (n : ℕ) (bs : List ℕ) → length bs ≤ n → length (filled n bs) ≡ n
length-filled n bs h = length-append bs (replicate (n - length bs) 0) ∙ omega (arith, length-replicate {A = ℕ} (n - length bs) 0)
