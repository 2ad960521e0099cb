-- An instruction's bytes, class by class; and what encoding answers in each case.
use Prim.Native.Nat.{ℕ, ◌+◌, ◌<◌, ◌≤◌}
use mathlib.Core.Bool.{false, true}
use mathlib.Core.List.{List, [], ◌∷◌, ◌++◌, append-nil}
use mathlib.Core.Logic.{◌⊎◌, inl, inr}
use mathlib.Core.Path.{◌≡◌, refl, sym, ap, subst, ◌∙◌}
use native.Mathlib.Nat.{zero-add}
use lib.ListN.{length, drop, length-append}
use lib.Seq.{sets-eq}
use borrow.Author.Tests.{le-leb, lt-leb, eq-eqb, ne_eqb}
use Rattle.card.specs.Card.{DONE, SMALL}
use Rattle.leb128.specs.Shortest.{bytes_of}
use Rattle.opcode.specs.Table.{Row, latest}
use Rattle.opcode.specs.Immediate.{index, block_type, word, long, memory, memory_lane, lane_index, sixteen_bytes, sixteen_lanes}
use Rattle.opcode.specs.Number.{class_number, class_of}
use Rattle.instr.specs.Layout.{opcode_fields, immediate_fields, fields_of, row_in, layout}
use Rattle.instr.specs.Encode.{written, encoding, fault, answer, encoded, encoded_in}
use Rattle.instr.specs.Inner.Steps.{Put}
use Rattle.instr.specs.declared.Instr.{Instr}
use Rattle.instr.proofs.Classes.{fields-class}
use Rattle.instr.proofs.Sets.{written-append, put_then}

module _ (r : Row) (i : Instr) where
  pub bytes-index : class_of r ≡ class_number index → written (fields_of r i) ≡ bytes_of false 32 i.index
  unfolding immediate_fields
  bytes-index e = ap written (fields-class r index e i) ∙ append-nil (bytes_of false 32 i.index)

  pub bytes_word : class_of r ≡ class_number word → written (fields_of r i) ≡ bytes_of true 32 i.word
  unfolding immediate_fields
  bytes_word e = ap written (fields-class r word e i) ∙ append-nil (bytes_of true 32 i.word)

  pub bytes-long : class_of r ≡ class_number long → written (fields_of r i) ≡ bytes_of true 64 i.long
  unfolding immediate_fields
  bytes-long e = ap written (fields-class r long e i) ∙ append-nil (bytes_of true 64 i.long)

  pub bytes-memory : class_of r ≡ class_number memory → written (fields_of r i) ≡ bytes_of false 32 i.align ++ bytes_of false 32 i.offset
  unfolding immediate_fields
  bytes-memory e =
      ap written (fields-class r memory e i) ∙ ap (λ (l : List ℕ). bytes_of false 32 i.align ++ l) (append-nil (bytes_of false 32 i.offset))

  pub bytes-memory-lane : class_of r ≡ class_number memory_lane
      → written (fields_of r i) ≡ bytes_of false 32 i.align ++ (bytes_of false 32 i.offset ++ i.lane ∷ [])
  unfolding immediate_fields
  bytes-memory-lane e = ap written (fields-class r memory_lane e i)

  pub bytes-lane : class_of r ≡ class_number lane_index → written (fields_of r i) ≡ i.lane ∷ []
  unfolding immediate_fields
  bytes-lane e = ap written (fields-class r lane_index e i)

  pub bytes-block : class_of r ≡ class_number block_type → written (fields_of r i) ≡ i.block ∷ []
  unfolding immediate_fields
  bytes-block e = ap written (fields-class r block_type e i)

  pub bytes-sixteen : (class_of r ≡ class_number sixteen_bytes) ⊎ (class_of r ≡ class_number sixteen_lanes) → written (fields_of r i) ≡ i.bytes
  unfolding immediate_fields
  bytes-sixteen (inl e) = ap written (fields-class r sixteen_bytes e i) ∙ append-nil i.bytes
  bytes-sixteen (inr e) = ap written (fields-class r sixteen_lanes e i) ∙ append-nil i.bytes

module _ (i : Instr) where
  abbrev head_bytes : List ℕ
  head_bytes = written (opcode_fields i.first i.number)

  abbrev tail-bytes : List ℕ
  tail-bytes = written (fields_of (row_in latest i) i)

  pub encoding-is : encoding i ≡ head_bytes ++ tail-bytes
  unfolding encoding layout
  encoding-is = written-append (opcode_fields i.first i.number) (fields_of (row_in latest i) i)

  pub encoding-length : length (encoding i) ≡ length head_bytes + length tail-bytes
  encoding-length = ap length encoding-is ∙ length-append head_bytes tail-bytes

  module _ (ver : ℕ) (out : List ℕ) where
    pub is-fault : (c : ℕ) → c ≡ fault ver i → (c ≡ DONE → ⊥) → (answer c 0 ≡ encoded ver i out) × (out ≡ encoded_in ver i out)
    unfolding encoded encoded_in
    is-fault c f h = rw (← f, ne_eqb c DONE h) ((refl, refl))

    module _ (f : fault ver i ≡ DONE) where
      pub is-small : length out < length (encoding i) → (answer SMALL 0 ≡ encoded ver i out) × (out ≡ encoded_in ver i out)
      unfolding encoded encoded_in
      is-small h = rw (eq-eqb (fault ver i) DONE f, lt-leb (length (encoding i)) (length out) h) ((refl, refl))

      pub is-done : {out₁ out₂ : List ℕ} {p r : ℕ} → length (encoding i) ≤ length out → Put out 0 head_bytes p out₁ → Put out₁ p tail-bytes r out₂
          → (answer DONE r ≡ encoded ver i out) × (out₂ ≡ encoded_in ver i out)
      unfolding encoded encoded_in
      is-done {out₁} {out₂} {p} {r} h a b =
          let w = subst (λ (l : List ℕ). Put out 0 l r out₂) (sym encoding-is) (put_then a b) in
          let z = zero-add (length (encoding i)) in
          rw (eq-eqb (fault ver i) DONE f, le-leb (length (encoding i)) (length out) h)
          ((ap (answer DONE) (w.to ∙ z), w.bytes ∙ sets-eq (encoding i) out 0 (rw z h) ∙ ap (λ (n : ℕ). encoding i ++ drop n out) z))
