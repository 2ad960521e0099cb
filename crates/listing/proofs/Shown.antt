-- The immediates as they are shown, class by class.
use Prim.Native.Nat.{ℕ, suc, ◌+◌, ◌-◌, ◌^◌, ◌≤◌, ◌<◌}
use mathlib.Core.Path.{◌≡◌, refl, sym, ap, subst, ◌∙◌}
use mathlib.Core.Bool.{Bool, true, false, cond}
use mathlib.Core.List.{List, [], ◌∷◌, ◌++◌, map, append-nil}
use mathlib.Core.Logic.{◌⊎◌, inl, inr}
use native.Mathlib.Omega.{arith}
use borrow.Author.Tests.{ltb-false}
use lib.Dec.{ltb}
use lib.IntN.{ℤ, pos, negsuc}
use lib.ListN.{length}
use mir.Syntax.{w32, w64}
use mir.Val.{Fits, SFits, sel, to_z, of_z}
use mir.Facts.{sfits_to_z, sfits_widen, to_z-of_z, of_z-to_z}
use Rattle.text.specs.Decimal.{decimal, spelled}
use Rattle.text.specs.Words.{blank}
use Rattle.text.specs.Append.{Appends}
use Rattle.text.proofs.Decimals.{decimal-short, Word, spelled-short}
use Rattle.leb128.specs.Bits.{integer}
use Rattle.opcode.specs.Table.{Row, latest}
use Rattle.opcode.specs.Immediate.{index, block_type, word, long, memory, memory_lane, lane_index, sixteen_bytes, sixteen_lanes}
use Rattle.opcode.specs.Number.{class_number, class_of}
use Rattle.instr.specs.declared.Instr.{Instr}
use Rattle.instr.specs.Layout.{Field, immediate_fields, fields_of, row_in}
use Rattle.instr.proofs.Classes.{fields-class}
use Rattle.listing.specs.Line.{numbers, immediates}
use Rattle.listing.specs.Inner.Parts.{led, Adds}
use Rattle.listing.proofs.Parts.{adds_same, one_byte, adds-both}

abbrev pub shown : List Field → List ℕ
shown fs = led (map spelled (numbers fs))

-- one more number
abbrev pub one : ℕ → List ℕ
one n = blank ∷ decimal n

module _ (i : Instr) where
  abbrev r : Row
  r = row_in latest i

  pub all_shown : led (map spelled (immediates i)) ≡ shown (fields_of r i)
  unfolding immediates
  all_shown = refl

  pub shown-index : class_of r ≡ class_number index → one i.index ≡ led (map spelled (immediates i))
  unfolding immediate_fields immediates led spelled
  shown-index e = sym (append-nil (one i.index)) ∙ ap shown (sym (fields-class r index e i))

  pub shown-block : class_of r ≡ class_number block_type → one i.block ≡ led (map spelled (immediates i))
  unfolding immediate_fields immediates led spelled
  shown-block e = sym (append-nil (one i.block)) ∙ ap shown (sym (fields-class r block_type e i))

  pub shown-word : class_of r ≡ class_number word → blank ∷ spelled (integer true 32 i.word) ≡ led (map spelled (immediates i))
  unfolding immediate_fields immediates led
  shown-word e = sym (append-nil (blank ∷ spelled (integer true 32 i.word))) ∙ ap shown (sym (fields-class r word e i))

  pub shown-long : class_of r ≡ class_number long → blank ∷ spelled (integer true 64 i.long) ≡ led (map spelled (immediates i))
  unfolding immediate_fields immediates led
  shown-long e = sym (append-nil (blank ∷ spelled (integer true 64 i.long))) ∙ ap shown (sym (fields-class r long e i))

  pub shown-memory : class_of r ≡ class_number memory → one i.align ++ one i.offset ≡ led (map spelled (immediates i))
  unfolding immediate_fields immediates led spelled
  shown-memory e = ap (λ (l : List ℕ). one i.align ++ l) (sym (append-nil (one i.offset))) ∙ ap shown (sym (fields-class r memory e i))

  pub shown-memory-lane : class_of r ≡ class_number memory_lane → one i.align ++ (one i.offset ++ one i.lane) ≡ led (map spelled (immediates i))
  unfolding immediate_fields immediates led spelled
  shown-memory-lane e =
      ap (λ (l : List ℕ). one i.align ++ (one i.offset ++ l)) (sym (append-nil (one i.lane))) ∙ ap shown (sym (fields-class r memory_lane e i))

  pub shown-lane : class_of r ≡ class_number lane_index → one i.lane ≡ led (map spelled (immediates i))
  unfolding immediate_fields immediates led spelled
  shown-lane e = sym (append-nil (one i.lane)) ∙ ap shown (sym (fields-class r lane_index e i))

  pub shown-sixteen : (class_of r ≡ class_number sixteen_bytes) ⊎ (class_of r ≡ class_number sixteen_lanes)
      → led (map spelled (map pos i.bytes)) ≡ led (map spelled (immediates i))
  unfolding immediate_fields immediates
  shown-sixteen (inl e) = ap (λ (l : List ℤ). led (map spelled l)) (sym (append-nil (map pos i.bytes))) ∙ ap shown (sym (fields-class r sixteen_bytes e i))
  shown-sixteen (inr e) = ap (λ (l : List ℤ). led (map spelled l)) (sym (append-nil (map pos i.bytes))) ∙ ap shown (sym (fields-class r sixteen_lanes e i))

  pub shown-none : fields_of r i ≡ [] → [] ≡ led (map spelled (immediates i))
  unfolding immediates led
  shown-none e = ap shown (sym e)

-- ---- the bits of a signed number

chosen : (t : Bool) (x y : ℤ) → sel t x y ≡ cond t x y
chosen true x y = refl
chosen false x y = refl

pub word_read : (v : ℕ) → to_z w32 v ≡ integer true 32 v
word_read v = chosen (ltb v (2 ^ 31)) (pos v) (negsuc (2 ^ 32 - suc v))

pub long-read : (v : ℕ) → to_z w64 v ≡ integer true 64 v
long-read v = chosen (ltb v (2 ^ 63)) (pos v) (negsuc (2 ^ 64 - suc v))

-- 64 bits, signed
word-range : (t : Bool) (v : ℕ) → v < 2 ^ 32 → Word (cond t (pos v) (negsuc (2 ^ 32 - suc v)))
word-range true v h = omega arith
word-range false v h = omega arith

long-range : (t : Bool) (v : ℕ) → v < 2 ^ 64 → ltb v (2 ^ 63) ≡ t → Word (cond t (pos v) (negsuc (2 ^ 64 - suc v)))
long-range true v h e = omega arith
long-range false v h e = let big = ltb-false v (2 ^ 63) e in omega arith

-- z is read from the bits v, and handed on as an i64
module _ (v : ℕ) {z : ℤ} where
  module _ (h : Fits w32 v) (e : z ≡ to_z w32 v) where
    back : to_z w32 (of_z w32 z) ≡ to_z w32 v
    back = ap (λ (x : ℤ). to_z w32 (of_z w32 x)) e ∙ ap (to_z w32) (of_z-to_z h)

    word-casts : SFits w64 (to_z w32 (of_z w32 z))
    word-casts = subst (SFits w64) (sym back) (sfits_widen tt (sfits_to_z h))

    pub word-told : {out out' out'' : List ℕ} {at m n : ℕ} → Appends (blank ∷ []) out at m out'
        → Appends (spelled (to_z w64 (of_z w64 (to_z w32 (of_z w32 z))))) out' m n out''
        → at + 21 ≤ length out → Adds 21 (blank ∷ spelled (integer true 32 v)) out at n out''
    word-told p q room =
        let is : to_z w64 (of_z w64 (to_z w32 (of_z w32 z))) ≡ integer true 32 v = to_z-of_z word-casts ∙ back ∙ word_read v in
        let few = spelled-short (integer true 32 v) (word-range (ltb v (2 ^ 31)) v h.fits) in
        adds-both {b = 20} (one_byte p)
        (adds_same (ap spelled is) (record { short = omega (arith, few, ap (λ (x : ℤ). length (spelled x)) is); appends = q })) (omega arith)

  pub long-told : Fits w64 v → z ≡ to_z w64 v → {out out' out'' : List ℕ} {at m n : ℕ} → Appends (blank ∷ []) out at m out'
      → Appends (spelled (to_z w64 (of_z w64 z))) out' m n out''
      → at + 21 ≤ length out → Adds 21 (blank ∷ spelled (integer true 64 v)) out at n out''
  long-told h e p q room =
      let is : to_z w64 (of_z w64 z) ≡ integer true 64 v = ap (λ (x : ℤ). to_z w64 (of_z w64 x)) e ∙ ap (to_z w64) (of_z-to_z h) ∙ long-read v in
      let few = spelled-short (integer true 64 v) (long-range (ltb v (2 ^ 63)) v h.fits refl) in
      adds-both {b = 20} (one_byte p)
      (adds_same (ap spelled is) (record { short = omega (arith, few, ap (λ (x : ℤ). length (spelled x)) is); appends = q })) (omega arith)

pub number-told : {v : ℕ} {out out' out'' : List ℕ} {at m n : ℕ} → v < 2 ^ 64 → Appends (blank ∷ []) out at m out' → Appends (decimal v) out' m n out''
    → at + 21 ≤ length out
    → Adds 21 (blank ∷ decimal v) out at n out''
number-told {v} h p q room = adds-both {b = 20} (one_byte p) (record { short = decimal-short v h; appends = q }) (omega arith)
