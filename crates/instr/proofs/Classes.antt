-- What the class of an instruction's row says of decoding and encoding it.
use Prim.Native.Nat.{ℕ, ◌<◌, ◌≤◌}
use mathlib.Core.Bool.{Bool, cond}
use mathlib.Core.List.{List, [], ◌∷◌}
use mathlib.Core.Logic.{◌⊎◌, inl, inr, ⊎_elim}
use mathlib.Core.Path.{◌≡◌, refl, sym, ap, subst, ◌∙◌}
use native.Mathlib.Omega.{arith}
use lib.Dec.{eqb}
use borrow.Author.Tests.{eq-eqb, ne_eqb, lt-ltb, le-ltb}
use Rattle.card.specs.Card.{DONE, KIND, OPCODE, FLOAT, LANE}
use Rattle.opcode.specs.BlockType.{is_block_type}
use Rattle.opcode.specs.Table.{Row, carried, float, unassigned, latest, row_at}
use Rattle.opcode.specs.Immediate.{Immediates, nothing, index, block_type, word, long, memory, memory_lane, lane_index, sixteen_bytes, sixteen_lanes, immediates, moved_by, lanes_of}
use Rattle.opcode.specs.Number.{class_number, CLASS_FLOAT, CLASS_UNASSIGNED, class_of, id_of, row_of}
use Rattle.opcode.proofs.Id.{row-of-id}
use Rattle.opcode.proofs.Classes.{class-carried, class_float, class-unassigned}
use Rattle.leb128.proofs.Arith.{either}
use Rattle.opcode.proofs.Arms.{Missed}
use Rattle.instr.specs.Layout.{Head, immediate_fields, fields_of, refusal}
use Rattle.instr.specs.Decode.{immediates_at, body_of}
use Rattle.instr.specs.Encode.{exponent_fault, all_below, fault_in, fault_of}
use Rattle.instr.specs.Inner.Steps.{bare_of, memory_class, lane_ends, lane_fault}
use Rattle.instr.specs.declared.Instr.{Instr}

module _ (r : Row) (k : Immediates) (e : class_of r ≡ class_number k) where
  pub body-class : (s : List ℕ) (at p : ℕ) (h : Head) → body_of r s at p h ≡ immediates_at k (moved_by r) (lanes_of r) s at p h
  unfolding body_of
  body-class s at p h =
      let t = class-carried r k e in
      rw t.1 (ap (λ (j : Immediates). immediates_at j (moved_by (carried t.0)) (lanes_of (carried t.0)) s at p h) t.2)

  pub fields-class : (i : Instr) → fields_of r i ≡ immediate_fields k i
  unfolding fields_of
  fields-class i = let t = class-carried r k e in rw t.1 (ap (λ (j : Immediates). immediate_fields j i) t.2)

  pub fault-class : (i : Instr) → fault_of r i ≡ fault_in k (moved_by r) (lanes_of r) i
  unfolding fault_of
  fault-class i =
      let t = class-carried r k e in
      rw t.1 (ap (λ (j : Immediates). fault_in j (moved_by (carried t.0)) (lanes_of (carried t.0)) i) t.2)

pub body-float : (r : Row) → class_of r ≡ CLASS_FLOAT → (s : List ℕ) (at p : ℕ) (h : Head) → body_of r s at p h ≡ refusal FLOAT at
unfolding body_of
body-float r e s at p h = rw (class_float r e)

pub fault-float : (r : Row) → class_of r ≡ CLASS_FLOAT → (i : Instr) → fault_of r i ≡ FLOAT
unfolding fault_of
fault-float r e i = rw (class_float r e)

pub fault-unassigned : (r : Row) → class_of r ≡ CLASS_UNASSIGNED → (i : Instr) → fault_of r i ≡ OPCODE
unfolding fault_of
fault-unassigned r e i = rw (class-unassigned r e)

-- the last arm of each `match` on a class
abbrev pub AllBut : List (List ℕ) → ℕ → Type 0
AllBut kss x = Missed (Unit {0}) kss x

-- decoding has an arm for every class but that of the unassigned; memory's two share one, which the code tells by `class < 6`
abbrev pub decoded : List (List ℕ)
decoded = (0 ∷ []) ∷ (1 ∷ []) ∷ (2 ∷ []) ∷ (3 ∷ []) ∷ (6 ∷ []) ∷ (7 ∷ []) ∷ (8 ∷ []) ∷ (9 ∷ []) ∷ (10 ∷ []) ∷ []

memory-or-none : (k : Immediates) → AllBut decoded (class_number k) → (k ≡ memory) ⊎ (k ≡ memory_lane)
memory-or-none nothing m = absurd (m.0.0.0.0.0.0.0.0.1 refl)
memory-or-none index m = absurd (m.0.0.0.0.0.0.0.1 refl)
memory-or-none word m = absurd (m.0.0.0.0.0.0.1 refl)
memory-or-none long m = absurd (m.0.0.0.0.0.1 refl)
memory-or-none memory m = inl refl
memory-or-none memory_lane m = inr refl
memory-or-none lane_index m = absurd (m.0.0.0.0.1 refl)
memory-or-none sixteen_bytes m = absurd (m.0.0.0.1 refl)
memory-or-none sixteen_lanes m = absurd (m.0.0.1 refl)
memory-or-none block_type m = absurd (m.0.1 refl)

pub other-class : (r : Row) → AllBut decoded (class_of r) → 6 ≤ class_of r → r ≡ unassigned
other-class (carried c) m l =
    absurd (⊎_elim (λ e. omega (arith, ap class_number e)) (λ e. omega (arith, ap class_number e)) (memory-or-none (immediates c) m))
other-class float m l = absurd (m.1 refl)
other-class unassigned m l = refl

body-other : (r : Row) → AllBut decoded (class_of r) → 6 ≤ class_of r → (s : List ℕ) (at p : ℕ) (h : Head)
    → body_of r s at p h ≡ refusal OPCODE at
unfolding body_of
body-other r m l s at p h = rw (other-class r m l)

pub memory-class : (r : Row) → AllBut decoded (class_of r) → class_of r < 6 → (class_of r ≡ class_number memory) ⊎ (class_of r ≡ class_number memory_lane)
memory-class (carried c) m l = ⊎_elim (λ e. inl (ap class_number e)) (λ e. inr (ap class_number e)) (memory-or-none (immediates c) m)
memory-class float m l = absurd (m.1 refl)
memory-class unassigned m l = absurd (omega arith)

-- an id stands for the row
pub row_in : (first n id : ℕ) → first < 256 → id ≡ id_of first n → row_of id ≡ row_at latest first n
row_in first n id l e = ap row_of e ∙ row-of-id first n l

-- class is that of the row
module _ (r : Row) (class : ℕ) (f : class ≡ class_of r) where
  pub class-at : {k : ℕ} → class ≡ k → class_of r ≡ k
  class-at g = sym f ∙ g

  module _ (s : List ℕ) (at p : ℕ) (h : Head) where
    pub body-lane : (k : ℕ) → k ≡ lanes_of r → class ≡ class_number lane_index → lane_ends k s p at (bare_of h) ≡ body_of r s at p h
    unfolding lane_ends immediates_at
    body-lane k g c = rw g (sym (body-class r lane_index (class-at c) s at p h))

    pub body-memory : (m k : ℕ) (laned : Bool) → m ≡ moved_by r → k ≡ lanes_of r → laned ≡ eqb class 5 → AllBut decoded class → class < 6
        → immediates_at (memory_class laned) m k s at p h ≡ body_of r s at p h
    body-memory m k laned g i j o t =
        rw (g, i, j)
        (⊎_elim
        (λ c. rw (ne_eqb class 5 (λ z. omega (arith, f, c))) (sym (body-class r memory (class-at (f ∙ c)) s at p h)))
        (λ c. rw (eq-eqb class 5 (f ∙ c)) (sym (body-class r memory_lane (class-at (f ∙ c)) s at p h)))
        (memory-class r (subst (AllBut decoded) f o) (omega (arith, f))))

    pub body-none : AllBut decoded class → 6 ≤ class → body_of r s at p h ≡ refusal OPCODE at
    body-none o t =
        let g = class-at {k = class} refl in
        body-other r (subst (AllBut decoded) (sym g) o) (omega (arith, g)) s at p h

-- what was judged of a lane index
module _ (n lane : ℕ) where
  pub lane-right : DONE ≡ lane_fault n lane → lane < n
  lane-right e = either n lane (λ l. absurd (omega (arith, rw (le-ltb lane n l) at e))) (λ l. l)

  pub lane-wrong : (c : ℕ) → c ≡ lane_fault n lane → (c ≡ DONE → ⊥) → (n ≤ lane) × (c ≡ LANE)
  lane-wrong c e h = either n lane (λ l. (l, rw (le-ltb lane n l) at e)) (λ l. absurd (h (rw (lt-ltb lane n l) at e)))

-- what is wrong with an instruction, by its class
module _ (r : Row) (i : Instr) where
  pub fault-memory : (m : ℕ) → m ≡ moved_by r → class_of r ≡ class_number memory → exponent_fault m i.align ≡ fault_of r i
  unfolding fault_in
  fault-memory m e c = rw e (sym (fault-class r memory c i))

  module _ (n : ℕ) (e : n ≡ lanes_of r) where
    pub fault-memory-lane : (m : ℕ) → m ≡ moved_by r → class_of r ≡ class_number memory_lane → i.lane < n → exponent_fault m i.align ≡ fault_of r i
    unfolding fault_in
    fault-memory-lane m f c h = rw f (sym (fault-class r memory_lane c i ∙ rw (lt-ltb i.lane (lanes_of r) (omega (arith, e)))))

    pub fault-lane-memory : class_of r ≡ class_number memory_lane → n ≤ i.lane → LANE ≡ fault_of r i
    unfolding fault_in
    fault-lane-memory c h = sym (fault-class r memory_lane c i ∙ rw (le-ltb i.lane (lanes_of r) (omega (arith, e))))

    pub fault-lane : class_of r ≡ class_number lane_index → lane_fault n i.lane ≡ fault_of r i
    unfolding fault_in
    fault-lane c = rw e (sym (fault-class r lane_index c i))

  pub fault-block : (t : Bool) → t ≡ is_block_type i.block → class_of r ≡ class_number block_type → cond t DONE KIND ≡ fault_of r i
  unfolding fault_in
  fault-block t e c = rw e (sym (fault-class r block_type c i))

  pub fault-lanes : (t : Bool) → t ≡ all_below 32 i.bytes → class_of r ≡ class_number sixteen_lanes → cond t DONE LANE ≡ fault_of r i
  unfolding fault_in
  fault-lanes t e c = rw e (sym (fault-class r sixteen_lanes c i))

-- those without a lane index, an exponent or indices have nothing wrong
abbrev pub judged : List (List ℕ)
judged = (4 ∷ []) ∷ (5 ∷ []) ∷ (6 ∷ []) ∷ (8 ∷ []) ∷ (9 ∷ []) ∷ (10 ∷ []) ∷ (11 ∷ []) ∷ []

pub fault-other : (r : Row) → AllBut judged (class_of r) → (i : Instr) → fault_of r i ≡ DONE
unfolding fault_of fault_in
fault-other (carried c) m i = by (immediates c) m
  where
    by : (k : Immediates) → AllBut judged (class_number k)
        → fault_in k (moved_by (carried c)) (lanes_of (carried c)) i ≡ DONE
    by nothing m = refl
    by index m = refl
    by word m = refl
    by long m = refl
    by memory m = absurd (m.0.0.0.0.0.0.1 refl)
    by memory_lane m = absurd (m.0.0.0.0.0.1 refl)
    by lane_index m = absurd (m.0.0.0.0.1 refl)
    by sixteen_bytes m = refl
    by sixteen_lanes m = absurd (m.0.0.0.1 refl)
    by block_type m = absurd (m.0.0.1 refl)
fault-other float m i = absurd (m.0.1 refl)
fault-other unassigned m i = absurd (m.1 refl)

-- the others have no immediates
abbrev pub carrying : List (List ℕ)
carrying = (1 ∷ []) ∷ (2 ∷ []) ∷ (3 ∷ []) ∷ (4 ∷ []) ∷ (5 ∷ []) ∷ (6 ∷ []) ∷ (7 ∷ []) ∷ (8 ∷ []) ∷ (9 ∷ []) ∷ []

pub fields-other : (r : Row) → AllBut carrying (class_of r) → (i : Instr) → fields_of r i ≡ []
unfolding fields_of immediate_fields
fields-other (carried c) m i = by (immediates c) m
  where
    by : (k : Immediates) → AllBut carrying (class_number k) → immediate_fields k i ≡ []
    by nothing m = refl
    by index m = absurd (m.0.0.0.0.0.0.0.0.1 refl)
    by word m = absurd (m.0.0.0.0.0.0.0.1 refl)
    by long m = absurd (m.0.0.0.0.0.0.1 refl)
    by memory m = absurd (m.0.0.0.0.0.1 refl)
    by memory_lane m = absurd (m.0.0.0.0.1 refl)
    by lane_index m = absurd (m.0.0.0.1 refl)
    by sixteen_bytes m = absurd (m.0.0.1 refl)
    by sixteen_lanes m = absurd (m.0.1 refl)
    by block_type m = absurd (m.1 refl)
fields-other float m i = refl
fields-other unassigned m i = refl
