-- The numbers that are shown tell the fields: two lists of fields of one form that show the same are the same.
use Prim.Native.Nat.{ℕ, ◌^◌, ◌<◌}
use mathlib.Core.Path.{◌≡◌, refl, sym, ap, ap₂, ◌∙◌}
use mathlib.Core.Bool.{Bool}
use mathlib.Core.List.{List, [], ◌∷◌, map}
use native.Mathlib.Omega.{arith}
use lib.Dec.{lit<}
use lib.IntN.{pos}
use lib.ListN.{length, length-map}
use Rattle.leb128.specs.Bits.{integer, bits}
use Rattle.leb128.proofs.Widths.{bits_back}
use Rattle.opcode.specs.Immediate.{Immediates, nothing, index, block_type, word, long, memory, memory_lane, lane_index, sixteen_bytes, sixteen_lanes}
use Rattle.instr.specs.declared.Instr.{Instr}
use Rattle.instr.specs.Layout.{Field, number, raw, immediate_fields, Head, instr, block_instr, zeros, kept, Typed}
use Rattle.rules.proofs.Lists.{parts-once}
use Rattle.listing.specs.Line.{numbers}

-- one form: numbers of the same bits, as many bytes
abbrev pub Alike : List Field → List Field → Type 0
Alike [] [] = Unit {0}
Alike [] (g ∷ gs) = ⊥
Alike (f ∷ fs) [] = ⊥
Alike (number sign N v ∷ fs) (number sign' N' v' ∷ gs) = (sign ≡ sign') × (N ≡ N') × (0 < N) × (v < 2 ^ N) × (v' < 2 ^ N) × Alike fs gs
Alike (number sign N v ∷ fs) (raw ys ∷ gs) = ⊥
Alike (raw xs ∷ fs) (number sign N v ∷ gs) = ⊥
Alike (raw xs ∷ fs) (raw ys ∷ gs) = (length xs ≡ length ys) × Alike fs gs

number-once : (sign : Bool) (N v v' : ℕ) → 0 < N → v < 2 ^ N → v' < 2 ^ N → integer sign N v ≡ integer sign N v' → v ≡ v'
number-once sign N v v' h l l' e = sym (bits_back N h sign v l).1 ∙ ap (bits N) e ∙ (bits_back N h sign v' l').1

bytes-once : (xs ys : List ℕ) → map pos xs ≡ map pos ys → xs ≡ ys
bytes-once [] [] e = refl
bytes-once [] (y ∷ ys) e = absurd (let z : ◌≡◌ {A = ℕ} 0 1 = cc in omega arith)
bytes-once (x ∷ xs) [] e = absurd (let z : ◌≡◌ {A = ℕ} 0 1 = cc in omega arith)
bytes-once (x ∷ xs) (y ∷ ys) e =
    let first : x ≡ y = cc in
    let rest : map pos xs ≡ map pos ys = cc in
    ap₂ (λ (b : ℕ) (bs : List ℕ). b ∷ bs) first (bytes-once xs ys rest)

pub fields-once : (fs gs : List Field) → Alike fs gs → numbers fs ≡ numbers gs → fs ≡ gs
fields-once [] [] a e = refl
fields-once [] (g ∷ gs) a e = absurd a
fields-once (f ∷ fs) [] a e = absurd a
fields-once (number sign N v ∷ fs) (number sign' N' v' ∷ gs) a e =
    let shown : integer sign N v ≡ integer sign' N' v' = cc in
    let rest : numbers fs ≡ numbers gs = cc in
    let same : v ≡ v' = number-once sign N v v' a.2 a.3 a.4 (shown ∙ ap₂ (λ (s : Bool) (n : ℕ). integer s n v') (sym a.0) (sym a.1)) in
    ap₂ (λ (f : Field) (l : List Field). f ∷ l) (ap₂ (λ (s : Bool) (n : ℕ). number s n v) a.0 a.1 ∙ ap (number sign' N') same)
    (fields-once fs gs a.5 rest)
fields-once (number sign N v ∷ fs) (raw ys ∷ gs) a e = absurd a
fields-once (raw xs ∷ fs) (number sign N v ∷ gs) a e = absurd a
fields-once (raw xs ∷ fs) (raw ys ∷ gs) a e =
    let parts = parts-once (map pos xs) (map pos ys) (numbers fs) (numbers gs) (length-map xs pos ∙ a.0 ∙ sym (length-map ys pos)) e in
    ap₂ (λ (f : Field) (l : List Field). f ∷ l) (ap raw (bytes-once xs ys parts.0)) (fields-once fs gs a.1 parts.1)

-- ---- the immediates of a class are of one form

module _ (i j : Instr) (t : Typed i) (u : Typed j) where
  pub class-alike : (k : Immediates) → Alike (immediate_fields k i) (immediate_fields k j)
  unfolding immediate_fields
  class-alike nothing = tt
  class-alike index = (refl, refl, lit< tt, t.index, u.index, tt)
  class-alike block_type = (refl, tt)
  class-alike word = (refl, refl, lit< tt, t.word, u.word, tt)
  class-alike long = (refl, refl, lit< tt, t.long, u.long, tt)
  class-alike memory = (refl, refl, lit< tt, t.align, u.align, (refl, refl, lit< tt, t.offset, u.offset, tt))
  class-alike memory_lane = (refl, refl, lit< tt, t.align, u.align, (refl, refl, lit< tt, t.offset, u.offset, (refl, tt)))
  class-alike lane_index = (refl, tt)
  class-alike sixteen_bytes = (t.sixteen ∙ sym u.sixteen, tt)
  class-alike sixteen_lanes = (t.sixteen ∙ sym u.sixteen, tt)

-- and tell what the instruction has
pub kept-once : (k : Immediates) (h : Head) (i j : Instr) → immediate_fields k i ≡ immediate_fields k j → kept k h i ≡ kept k h j
unfolding immediate_fields
kept-once nothing h i j e = refl
kept-once index h i j e = let same : i.index ≡ j.index = cc in ap (λ (v : ℕ). instr h v 0 0 0 0 0 zeros) same
kept-once block_type h i j e = let same : i.block ≡ j.block = cc in ap (block_instr h) same
kept-once word h i j e = let same : i.word ≡ j.word = cc in ap (λ (v : ℕ). instr h 0 v 0 0 0 0 zeros) same
kept-once long h i j e = let same : i.long ≡ j.long = cc in ap (λ (v : ℕ). instr h 0 0 v 0 0 0 zeros) same
kept-once memory h i j e =
    let a : i.align ≡ j.align = cc in
    let o : i.offset ≡ j.offset = cc in
    ap₂ (λ (v w : ℕ). instr h 0 0 0 v w 0 zeros) a o
kept-once memory_lane h i j e =
    let a : i.align ≡ j.align = cc in
    let o : i.offset ≡ j.offset = cc in
    let l : i.lane ≡ j.lane = cc in
    ap₂ (λ (v w : ℕ). instr h 0 0 0 v w i.lane zeros) a o ∙ ap (λ (v : ℕ). instr h 0 0 0 j.align j.offset v zeros) l
kept-once lane_index h i j e = let same : i.lane ≡ j.lane = cc in ap (λ (v : ℕ). instr h 0 0 0 0 0 v zeros) same
kept-once sixteen_bytes h i j e = let same : i.bytes ≡ j.bytes = cc in ap (instr h 0 0 0 0 0 0) same
kept-once sixteen_lanes h i j e = let same : i.bytes ≡ j.bytes = cc in ap (instr h 0 0 0 0 0 0) same
