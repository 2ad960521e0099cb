-- Encoding does not depend on the immediates that the instruction lacks.
use Prim.Native.Nat.{ℕ}
use mathlib.Core.Bool.{Bool, true, false, cond}
use mathlib.Core.List.{List, ◌++◌}
use mathlib.Core.Path.{◌≡◌, refl, sym, ap, ap₂, ◌∙◌}
use lib.Dec.{eqb}
use Rattle.opcode.specs.Table.{Row, carried, float, unassigned, latest, PREFIX, row_at}
use Rattle.opcode.specs.Immediate.{Immediates, nothing, index, block_type, word, long, memory, memory_lane, lane_index, sixteen_bytes, sixteen_lanes, immediates, moved_by, lanes_of}
use Rattle.instr.specs.Layout.{Field, opcode_fields, immediate_fields, fields_of, row_in, layout, Head, head_of, kept, kept_of, bare}
use Rattle.card.specs.Card.{VERSION}
use Rattle.opcode.specs.Table.{known}
use Rattle.instr.specs.Encode.{written, encoding, fault_in, fault_of, fault, encoded, encoded_in}
use Rattle.instr.specs.declared.Instr.{Instr}

-- the instruction that is kept has the same opcode, the same fields and the same fault
record Same (h : Head) (k : Immediates) (m n : ℕ) (i : Instr) : Type 0 where
  first : (kept k h i).first ≡ h.first
  number : (kept k h i).number ≡ h.number
  fields : immediate_fields k (kept k h i) ≡ immediate_fields k i
  fault : fault_in k m n (kept k h i) ≡ fault_in k m n i

kept_same : (h : Head) (m n : ℕ) (i : Instr) (k : Immediates) → Same h k m n i
unfolding immediate_fields fault_in
kept_same h m n i nothing = record { first = refl; number = refl; fields = refl; fault = refl }
kept_same h m n i index = record { first = refl; number = refl; fields = refl; fault = refl }
kept_same h m n i block_type = record { first = refl; number = refl; fields = refl; fault = refl }
kept_same h m n i word = record { first = refl; number = refl; fields = refl; fault = refl }
kept_same h m n i long = record { first = refl; number = refl; fields = refl; fault = refl }
kept_same h m n i memory = record { first = refl; number = refl; fields = refl; fault = refl }
kept_same h m n i memory_lane = record { first = refl; number = refl; fields = refl; fault = refl }
kept_same h m n i lane_index = record { first = refl; number = refl; fields = refl; fault = refl }
kept_same h m n i sixteen_bytes = record { first = refl; number = refl; fields = refl; fault = refl }
kept_same h m n i sixteen_lanes = record { first = refl; number = refl; fields = refl; fault = refl }

record SameOf (h : Head) (r : Row) (i : Instr) : Type 0 where
  first : (kept_of r h i).first ≡ h.first
  number : (kept_of r h i).number ≡ h.number
  fields : fields_of r (kept_of r h i) ≡ fields_of r i
  fault : fault_of r (kept_of r h i) ≡ fault_of r i

same_of : (h : Head) (i : Instr) (r : Row) → SameOf h r i
unfolding kept_of fields_of fault_of
same_of h i (carried c) =
    let s = kept_same h (moved_by (carried c)) (lanes_of (carried c)) i (immediates c) in
    record { first = s.first; number = s.number; fields = s.fields; fault = s.fault }
same_of h i float = record { first = refl; number = refl; fields = refl; fault = refl }
same_of h i unassigned = record { first = refl; number = refl; fields = refl; fault = refl }

-- a number that is not after FD is not part of the opcode
same_head : (ver first n : ℕ) → (row_at ver first (cond (eqb first PREFIX) n 0) ≡ row_at ver first n) × (opcode_fields first (cond (eqb first PREFIX) n 0) ≡ opcode_fields first n)
same_head ver first n = by (eqb first PREFIX) refl
  where
    by : (t : Bool) → eqb first PREFIX ≡ t → (row_at ver first (cond t n 0) ≡ row_at ver first n) × (opcode_fields first (cond t n 0) ≡ opcode_fields first n)
    by true e = (refl, refl)
    by false e = rw e ((refl, refl))

module _ (ver : ℕ) (i : Instr) where
  same : SameOf (head_of i) (row_in ver i) i
  same = same_of (head_of i) i (row_in ver i)

  same_row : (w : ℕ) → row_in w (bare ver i) ≡ row_in w i
  same_row w = ap₂ (row_at w) same.first same.number ∙ (same_head w i.first i.number).0

  pub fault-bare : fault ver (bare ver i) ≡ fault ver i
  fault-bare = ap (λ (x : ℕ). cond (known ver) x VERSION) (ap (λ (r : Row). fault_of r (bare ver i)) (same_row ver) ∙ same.fault)

module _ (i : Instr) where
  layout-bare : layout latest (bare latest i) ≡ layout latest i
  unfolding layout
  layout-bare =
      ap₂ (λ (x y : List Field). x ++ y) (ap₂ opcode_fields (same latest i).first (same latest i).number ∙ (same_head latest i.first i.number).1)
      (ap (λ (r : Row). fields_of r (bare latest i)) (same_row latest i latest) ∙ (same latest i).fields)

  pub encoding-bare : encoding (bare latest i) ≡ encoding i
  unfolding encoding
  encoding-bare = ap written layout-bare

-- two instructions that agree on what they have are encoded alike: the same bytes, the same answer, the same buffer
pub encoding-alike : (ver : ℕ) (i j : Instr) → bare latest i ≡ bare latest j → bare ver i ≡ bare ver j → (encoding i ≡ encoding j) × (fault ver i ≡ fault ver j)
encoding-alike ver i j e f = (sym (encoding-bare i) ∙ ap encoding e ∙ encoding-bare j, sym (fault-bare ver i) ∙ ap (fault ver) f ∙ fault-bare ver j)

pub encoded-alike : (ver : ℕ) (i j : Instr) → bare latest i ≡ bare latest j → bare ver i ≡ bare ver j → (out : List ℕ)
    → (encoded ver i out ≡ encoded ver j out) × (encoded_in ver i out ≡ encoded_in ver j out)
unfolding encoded encoded_in
encoded-alike ver i j e f out =
    let a = encoding-alike ver i j e f in
    rw (a.0, a.1) ((refl, refl))
