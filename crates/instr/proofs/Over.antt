-- Scanning goes over what decoding reads, and answers the same.
use Prim.Native.Nat.{ℕ, ◌+◌, ◌-◌, ◌<◌, ◌≤◌, ◌^◌}
use mathlib.Core.Bool.{Bool, true, false, cond}
use mathlib.Core.List.{List}
use mathlib.Core.Logic.{⊎_elim}
use mathlib.Core.Path.{◌≡◌, refl, sym, ap, subst, ◌∙◌}
use native.Mathlib.Omega.{arith}
use lib.Dec.{ltb, eqb}
use lib.ListN.{length, get_or}
use borrow.Author.Tests.{eq-eqb, ne_eqb, eqb-true}
use Rattle.card.specs.Card.{DONE, SHORT, KIND, OPCODE, FLOAT}
use Rattle.leb128.specs.Bytes.{bytes}
use Rattle.opcode.specs.BlockType.{is_block_type}
use Rattle.opcode.specs.Table.{Code, Row, carried, float, unassigned, row_at}
use Rattle.opcode.specs.Immediate.{Immediates, nothing, index, block_type, word, long, memory, memory_lane, lane_index, sixteen_bytes, sixteen_lanes, immediates, moved_by, lanes_of}
use Rattle.opcode.specs.Number.{class_number, CLASS_FLOAT, class_of, id_of, row_of}
use Rattle.opcode.specs.Entry.{entry_of}
use Rattle.opcode.proofs.Id.{row-of-id}
use Rattle.opcode.proofs.Classes.{class-carried, class_float}
use Rattle.opcode.proofs.Versions.{row-latest}
use Rattle.instr.specs.Layout.{Head, head, refusal}
use Rattle.instr.specs.Decode.{Item, got, no, and_then, and_read, number_item, byte_at, lane_at, block_at, exponent_at, lanes_at, sixteen_at, immediates_at, body_of, decode_in}
use Rattle.instr.specs.Scan.{scan_of}
use Rattle.instr.specs.Inner.Over.{over, over_memory, over_class, over_row}
use Rattle.instr.specs.declared.Decoded.{Decoded}
use Rattle.instr.specs.declared.Scanned.{Scanned}
use Rattle.instr.proofs.Classes.{AllBut, decoded, other-class, memory-class}
use Rattle.instr.proofs.Onward.{Onward, number-onward, exponent-onward, lane-onward, lanes-onward, sixteen-onward}
use Rattle.instr.proofs.Numbers.{number-32}

-- ---- by the class of the row

module _ (r : Row) (s : List ℕ) (at p : ℕ) where
  pub over-class : (k : Immediates) → class_of r ≡ class_number k → over_row r s at p ≡ over_class k (moved_by r) (lanes_of r) s p
  unfolding over_row
  over-class k e =
      let t = class-carried r k e in
      rw t.1 (ap (λ (j : Immediates). over_class j (moved_by (carried t.0)) (lanes_of (carried t.0)) s p) t.2)

  pub over-float : class_of r ≡ CLASS_FLOAT → over_row r s at p ≡ no FLOAT at
  unfolding over_row
  over-float e = rw (class_float r e)

  module _ (class : ℕ) (f : class ≡ class_of r) (o : AllBut decoded class) where
    pub over_none : 6 ≤ class → over_row r s at p ≡ no OPCODE at
    unfolding over_row
    over_none l = rw (other-class r (subst (AllBut decoded) f o) (omega (arith, f)))

    pub over-memory : class < 6 → over_row r s at p ≡ over_memory (eqb class 5) (moved_by r) (lanes_of r) s p
    unfolding over_class
    over-memory l =
        ⊎_elim
        (λ c. rw (ne_eqb class 5 (λ z. omega (arith, f, c))) (over-class memory c))
        (λ c. rw (eq-eqb class 5 (f ∙ c)) (over-class memory_lane c))
        (memory-class r (subst (AllBut decoded) f o) (omega (arith, f)))

-- ---- what is kept is a number of 32 bits, and the next place is not before this one

abbrev Fits : ℕ → Item → Type 0
Fits at (got v q) = (v < 2 ^ 32) × (at ≤ q)
Fits at (no c l) = Unit {0}

module _ (at : ℕ) where
  over-fits : (i : Item) → Onward at i → Fits at (over i)
  over-fits (got v q) h = (omega arith, h)
  over-fits (no c l) h = tt

  read_fits : (i : Item) (f : ℕ → ℕ → Item) → Onward at i → ((v q : ℕ) → at ≤ q → Fits at (f v q)) → Fits at (and_read i f)
  read_fits (got v q) f h g = g v q h
  read_fits (no c l) f h g = tt

  module _ (s : List ℕ) where
    memory-fits : (laned : Bool) (m n p : ℕ) → at ≤ p → Fits at (over_memory laned m n s p)
    unfolding over_memory
    memory-fits laned m n p h =
        read_fits (exponent_at m s p) _ (exponent-onward at s m p h) (λ a q l.
        read_fits (number_item false 32 s q) _ (number-onward at s false 32 q l) (λ o r k. by laned r k))
      where
        by : (t : Bool) (r : ℕ) → at ≤ r → Fits at (cond t (over (lane_at n s r)) (got 0 r))
        by true r k = over-fits (lane_at n s r) (lane-onward at s n r k)
        by false r k = (omega arith, k)

    module _ (b : bytes s) (p : ℕ) (h : at ≤ p) where
      index-fits : Fits at (number_item false 32 s p)
      index-fits = by (number_item false 32 s p) refl
        where
          by : (i : Item) → number_item false 32 s p ≡ i → Fits at i
          by (got v q) e = let t = number-32 false s p b v q e in omega (arith, t)
          by (no c l) e = tt

      block-fits : Fits at (block_at s p)
      unfolding block_at byte_at
      block-fits = by (ltb p (length s))
        where
          judge : (t : Bool) → Fits at (cond t (got (get_or s p 0) (p + 1)) (no KIND p))
          judge true = (omega (arith, b p), omega arith)
          judge false = tt

          by : (t : Bool) → Fits at (and_read (cond t (got (get_or s p 0) (p + 1)) (no SHORT (length s))) (λ v next. cond (is_block_type v) (got v next) (no KIND p)))
          by true = judge (is_block_type (get_or s p 0))
          by false = tt

      class-fits : (k : Immediates) (m n : ℕ) → Fits at (over_class k m n s p)
      unfolding over_class
      class-fits nothing m n = (omega arith, h)
      class-fits index m n = index-fits
      class-fits block_type m n = block-fits
      class-fits word m n = over-fits (number_item true 32 s p) (number-onward at s true 32 p h)
      class-fits long m n = over-fits (number_item true 64 s p) (number-onward at s true 64 p h)
      class-fits memory m n = memory-fits false m n p h
      class-fits memory_lane m n = memory-fits true m n p h
      class-fits lane_index m n = over-fits (lane_at n s p) (lane-onward at s n p h)
      class-fits sixteen_bytes m n = over-fits (sixteen_at s p) (sixteen-onward at s p h)
      class-fits sixteen_lanes m n = over-fits (lanes_at 16 s p) (lanes-onward at s 16 p h)

      row_fits : (r : Row) → Fits at (over_row r s at p)
      unfolding over_row
      row_fits (carried c) = class-fits (immediates c) (moved_by (carried c)) (lanes_of (carried c))
      row_fits float = tt
      row_fits unassigned = tt

      pub over-there : (r : Row) (v q : ℕ) → over_row r s at p ≡ got v q → (v < 2 ^ 32) × (at ≤ q)
      over-there r v q e = subst (Fits at) e (row_fits r)

-- ---- the answer

abbrev pub answered : ℕ → ℕ → Item → Scanned
answered at e (got v next) = record { code = DONE; place = 0; len = next - at; entry = e; immediate = v }
answered at e (no c l) = scan_of (refusal c l)

-- a block type is not 0, and where there is none an index is told
told-block : (v : ℕ) → cond (eqb v 0) 0 v ≡ v
told-block v = by (eqb v 0) refl
  where
    by : (t : Bool) → eqb v 0 ≡ t → cond t 0 v ≡ v
    by true e = sym (eqb-true v 0 e)
    by false e = refl

module _ (at : ℕ) (h : Head) where
  then-over : (i : Item) (f : ℕ → ℕ → Decoded) → ((v q : ℕ) → scan_of (f v q) ≡ answered at (entry_of (row_of (id_of h.first h.number))) (got 0 q))
      → scan_of (and_then i f) ≡ answered at (entry_of (row_of (id_of h.first h.number))) (over i)
  then-over (got v q) f e = e v q
  then-over (no c l) f e = refl

  then-read : (i : Item) (f : ℕ → ℕ → Decoded) (g : ℕ → ℕ → Item) → ((v q : ℕ) → scan_of (f v q) ≡ answered at (entry_of (row_of (id_of h.first h.number))) (g v q))
      → scan_of (and_then i f) ≡ answered at (entry_of (row_of (id_of h.first h.number))) (and_read i g)
  then-read (got v q) f g e = e v q
  then-read (no c l) f g e = refl

  then-kept : (i : Item) (f : ℕ → ℕ → Decoded) → ((v q : ℕ) → scan_of (f v q) ≡ answered at (entry_of (row_of (id_of h.first h.number))) (got v q))
      → scan_of (and_then i f) ≡ answered at (entry_of (row_of (id_of h.first h.number))) i
  then-kept (got v q) f e = e v q
  then-kept (no c l) f e = refl

  module _ (s : List ℕ) (p : ℕ) where
    scan-class : (k : Immediates) (m n : ℕ) → scan_of (immediates_at k m n s at p h) ≡ answered at (entry_of (row_of (id_of h.first h.number))) (over_class k m n s p)
    unfolding immediates_at over_class over_memory
    scan-class nothing m n = refl
    scan-class index m n = then-kept (number_item false 32 s p) _ (λ v q. refl)
    scan-class block_type m n = then-kept (block_at s p) _ (λ v q. ap (λ (x : ℕ). answered at (entry_of (row_of (id_of h.first h.number))) (got x q)) (told-block v))
    scan-class word m n = then-over (number_item true 32 s p) _ (λ v q. refl)
    scan-class long m n = then-over (number_item true 64 s p) _ (λ v q. refl)
    scan-class memory m n = then-read (exponent_at m s p) _ _ (λ a q. then-read (number_item false 32 s q) _ _ (λ o r. refl))
    scan-class memory_lane m n =
        then-read (exponent_at m s p) _ _ (λ a q. then-read (number_item false 32 s q) _ _ (λ o r. then-over (lane_at n s r) _ (λ l t. refl)))
    scan-class lane_index m n = then-over (lane_at n s p) _ (λ v q. refl)
    scan-class sixteen_bytes m n = then-over (sixteen_at s p) _ (λ v q. refl)
    scan-class sixteen_lanes m n = then-over (lanes_at 16 s p) _ (λ v q. refl)

    scan-row : (r : Row) → scan_of (body_of r s at p h) ≡ answered at (entry_of (row_of (id_of h.first h.number))) (over_row r s at p)
    unfolding body_of over_row
    scan-row (carried c) = scan-class (immediates c) (moved_by (carried c)) (lanes_of (carried c))
    scan-row float = refl
    scan-row unassigned = refl

-- a row that is refused has no entry to tell
module _ (ver : ℕ) (s : List ℕ) (at p first n : ℕ) (l : first < 256) where
  scan-either : (r : Row) → ((c : Code) → r ≡ carried c → row_of (id_of first n) ≡ carried c)
      → answered at (entry_of r) (over_row r s at p) ≡ answered at (entry_of (row_of (id_of first n))) (over_row r s at p)
  unfolding over_row
  scan-either (carried c) f = ap (λ (x : Row). answered at (entry_of x) (over_row (carried c) s at p)) (sym (f c refl))
  scan-either float f = refl
  scan-either unassigned f = refl

  scan-body : answered at (entry_of (row_at ver first n)) (over_row (row_at ver first n) s at p) ≡ scan_of (body_of (row_at ver first n) s at p (head first n))
  scan-body =
      scan-either (row_at ver first n) (λ c f. row-of-id first n l ∙ row-latest ver first n f) ∙ sym (scan-row at (head first n) s p (row_at ver first n))

-- the opcode and the rest were read
pub scanned : (ver : ℕ) (s : List ℕ) (at first n p : ℕ) → first < 256 → decode_in ver s at ≡ body_of (row_at ver first n) s at p (head first n)
    → (e : ℕ) → e ≡ entry_of (row_at ver first n) → (i : Item) → over_row (row_at ver first n) s at p ≡ i → answered at e i ≡ scan_of (decode_in ver s at)
scanned ver s at first n p l o e is i t =
    ap (λ (x : ℕ). answered at x i) is
    ∙ sym (ap (answered at (entry_of (row_at ver first n))) t)
    ∙ scan-body ver s at p first n l
    ∙ ap scan_of (sym o)
