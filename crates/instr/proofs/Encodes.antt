-- Encoding writes the fields, each in its shortest form; what is encoded is decoded again at any place, and what is decoded is encoded
-- in no more bytes.
use Prim.Native.Nat.{ℕ, suc, ◌≤◌, ◌^◌}
use mathlib.Core.Bool.{Bool, true, false, cond, ◌&&◌, false≢true}
use mathlib.Core.List.{List, [], ◌∷◌, ◌++◌}
use mathlib.Core.Path.{◌≡◌, refl, sym, ap, subst, ◌∙◌}
use native.Mathlib.Omega.{arith}
use lib.Dec.{ltb, leb, eqb}
use lib.ListN.{length, drop}
use borrow.Author.Tests.{lt-ltb, le-leb, ltb-true, leb-true}
use Rattle.card.specs.Card.{DONE, VERSION}
use Rattle.leb128.specs.Bytes.{bytes}
use Rattle.opcode.specs.BlockType.{is_block_type}
use Rattle.opcode.specs.Table.{Code, Row, carried, float, unassigned, latest, PREFIX}
use Rattle.opcode.specs.Immediate.{Immediates, nothing, index, block_type, word, long, memory, memory_lane, lane_index, sixteen_bytes, sixteen_lanes, immediates, moved_by, lanes_of}
use Rattle.opcode.proofs.Versions.{row-latest}
use Rattle.instr.specs.Layout.{Field, u32, Writes, Shortest, InOrder, opcode_fields, immediate_fields, fields_of, row_in, layout, Below, AllowedIn, Allowed, bare, Typed, Stands, found}
use Rattle.instr.specs.Decode.{decode_at}
use Rattle.opcode.specs.Table.{known}
use Rattle.instr.specs.Encode.{encoding, all_below, exponent_fault, fault_in, fault_of, fault}
use Rattle.instr.specs.declared.Instr.{Instr}
use Rattle.instr.proofs.Fields.{writes-of, in-order-least, in-order-only, Fit, fit_append, written-shortest}
use Rattle.instr.proofs.Decodes.{fields-decode}
use Rattle.instr.proofs.Stands.{decoded-stands}

-- ---- allowed is: nothing wrong

no-fault : (t : Bool) (x : ℕ) → cond t DONE (suc x) ≡ DONE → t ≡ true
no-fault true x e = refl
no-fault false x e = absurd (omega arith)

inner-fault : (t : Bool) (y x : ℕ) → cond t y (suc x) ≡ DONE → (t ≡ true) × (y ≡ DONE)
inner-fault true y x e = (refl, e)
inner-fault false y x e = absurd (omega arith)

true_below : (n : ℕ) (xs : List ℕ) → all_below n xs ≡ true → Below n xs
unfolding all_below
true_below n [] e = tt
true_below n (x ∷ xs) e = by-test (ltb x n) refl e (true_below n xs)
  where
    by-test : (b : Bool) → ltb x n ≡ b → (b && all_below n xs) ≡ true → (all_below n xs ≡ true → Below n xs) → Below n (x ∷ xs)
    by-test true f g k = (ltb-true x n f, k g)
    by-test false f g k = absurd (false≢true g)

below_true : (n : ℕ) (xs : List ℕ) → Below n xs → all_below n xs ≡ true
unfolding all_below
below_true n [] b = refl
below_true n (x ∷ xs) b = rw (lt-ltb x n b.0) (below_true n xs b.1)

module _ (m n : ℕ) (i : Instr) where
  fault-allowed-in : (k : Immediates) → fault_in k m n i ≡ DONE → AllowedIn k m n i
  unfolding fault_in AllowedIn
  fault-allowed-in nothing f = tt
  fault-allowed-in index f = tt
  fault-allowed-in block_type f = no-fault (is_block_type i.block) 5 f
  fault-allowed-in word f = tt
  fault-allowed-in long f = tt
  fault-allowed-in memory f = leb-true (2 ^ i.align) m (no-fault (leb (2 ^ i.align) m) 10 f)
  fault-allowed-in memory_lane f =
      let g = inner-fault (ltb i.lane n) (exponent_fault m i.align) 9 f in
      (leb-true (2 ^ i.align) m (no-fault (leb (2 ^ i.align) m) 10 g.1), ltb-true i.lane n g.0)
  fault-allowed-in lane_index f = ltb-true i.lane n (no-fault (ltb i.lane n) 9 f)
  fault-allowed-in sixteen_bytes f = tt
  fault-allowed-in sixteen_lanes f = true_below 32 i.bytes (no-fault (all_below 32 i.bytes) 9 f)

  allowed-fault-in : (k : Immediates) → AllowedIn k m n i → fault_in k m n i ≡ DONE
  unfolding fault_in AllowedIn
  allowed-fault-in nothing a = refl
  allowed-fault-in index a = refl
  allowed-fault-in block_type a = rw a
  allowed-fault-in word a = refl
  allowed-fault-in long a = refl
  allowed-fault-in memory a = rw (le-leb (2 ^ i.align) m a)
  allowed-fault-in memory_lane a = rw (lt-ltb i.lane n a.1, le-leb (2 ^ i.align) m a.0)
  allowed-fault-in lane_index a = rw (lt-ltb i.lane n a)
  allowed-fault-in sixteen_bytes a = refl
  allowed-fault-in sixteen_lanes a = rw (below_true 32 i.bytes a)

pub fault-allowed : (r : Row) (i : Instr) → fault_of r i ≡ DONE → Allowed r i
unfolding fault_of Allowed
fault-allowed (carried c) i f = fault-allowed-in (moved_by (carried c)) (lanes_of (carried c)) i (immediates c) f
fault-allowed float i f = absurd (omega arith)
fault-allowed unassigned i f = absurd (omega arith)

pub allowed-fault : (r : Row) (i : Instr) → Allowed r i → fault_of r i ≡ DONE
unfolding fault_of Allowed
allowed-fault (carried c) i a = allowed-fault-in (moved_by (carried c)) (lanes_of (carried c)) i (immediates c) a
allowed-fault float i a = absurd a
allowed-fault unassigned i a = absurd a

-- ---- the bytes

module _ (i : Instr) (t : Typed i) where
  immediates-fit : (k : Immediates) → Fit (immediate_fields k i)
  unfolding immediate_fields
  immediates-fit nothing = tt
  immediates-fit index = (omega arith, t.index, tt)
  immediates-fit block_type = tt
  immediates-fit word = (omega arith, t.word, tt)
  immediates-fit long = (omega arith, t.long, tt)
  immediates-fit memory = (omega arith, t.align, (omega arith, t.offset, tt))
  immediates-fit memory_lane = (omega arith, t.align, (omega arith, t.offset, tt))
  immediates-fit lane_index = tt
  immediates-fit sixteen_bytes = tt
  immediates-fit sixteen_lanes = tt

  fields_fit : (r : Row) → Fit (fields_of r i)
  unfolding fields_of
  fields_fit (carried c) = immediates-fit (immediates c)
  fields_fit float = tt
  fields_fit unassigned = tt

  opcode-fit : Fit (opcode_fields i.first i.number)
  opcode-fit = by (eqb i.first PREFIX)
    where
      by : (b : Bool) → Fit (cond b (u32 i.number ∷ []) [])
      by true = (omega arith, t.number, tt)
      by false = tt

  -- SHORTEST
  pub encode-shortest : InOrder Shortest (layout latest i) (encoding i)
  unfolding layout encoding
  encode-shortest =
      written-shortest (layout latest i) (fit_append (opcode_fields i.first i.number) (fields_of (row_in latest i) i) opcode-fit (fields_fit (row_in latest i)))

  -- and no other bytes are
  pub encode-only : (bs : List ℕ) → InOrder Shortest (layout latest i) bs → bs ≡ encoding i
  encode-only bs o = in-order-only (layout latest i) bs (encoding i) o encode-shortest

  pub encode-least : (bs : List ℕ) → InOrder Writes (layout latest i) bs → length (encoding i) ≤ length bs
  encode-least bs o = in-order-least (layout latest i) (encoding i) bs encode-shortest o

-- ---- a version that has the instruction

-- nothing wrong: the version is known
pub fault-known : (ver : ℕ) (i : Instr) → fault ver i ≡ DONE → (known ver ≡ true) × (fault_of (row_in ver i) i ≡ DONE)
fault-known ver i e = by (known ver) refl e
  where
    by : (t : Bool) → known ver ≡ t → cond t (fault_of (row_in ver i) i) VERSION ≡ DONE → (known ver ≡ true) × (fault_of (row_in ver i) i ≡ DONE)
    by true f g = (f, g)
    by false f g = absurd (omega (arith, g))

-- what is allowed is carried
allowed-carried : (r : Row) (i : Instr) → Allowed r i → (c : Code) × (r ≡ carried c)
unfolding Allowed
allowed-carried (carried c) i a = (c, refl)
allowed-carried float i a = absurd a
allowed-carried unassigned i a = absurd a

-- its fields are the same in the latest version
pub same_layout : (ver : ℕ) (i : Instr) → Allowed (row_in ver i) i → layout latest i ≡ layout ver i
unfolding layout
same_layout ver i a =
    let t = allowed-carried (row_in ver i) i a in
    ap (λ (r : Row). opcode_fields i.first i.number ++ fields_of r i) (row-latest ver i.first i.number t.1 ∙ sym t.1)

-- THE ROUND TRIP, at any place, whatever follows
pub round_trip : (ver : ℕ) (i : Instr) → Typed i → (s : List ℕ) (at : ℕ) (rest : List ℕ) → drop at s ≡ encoding i ++ rest → fault ver i ≡ DONE
    → decode_at ver s at ≡ found (length (encoding i)) (bare ver i)
round_trip ver i t s at rest e f =
    let a = fault-allowed (row_in ver i) i (fault-known ver i f).1 in
    fields-decode s ver i t at (encoding i) rest e a
    (writes-of (layout ver i) (encoding i) (subst (λ (fs : List Field). InOrder Shortest fs (encoding i)) (same_layout ver i a) (encode-shortest i t)))

-- WHAT STANDS IS ENCODED with nothing wrong, in no more bytes, and nothing of it is lost
pub record Encodes (ver : ℕ) (i : Instr) (n : ℕ) : Type 0 where
  pub no-fault : fault_of (row_in ver i) i ≡ DONE
  pub lacking : bare ver i ≡ i
  pub shorter : length (encoding i) ≤ n

pub stands-encodes : {ver : ℕ} {s : List ℕ} {at : ℕ} {i : Instr} {n : ℕ} → Stands ver s at i n → Encodes ver i n
stands-encodes {ver} {i = i} t =
    record {
      no-fault = allowed-fault (row_in ver i) i t.allowed;
      lacking = t.lacking;
      shorter =
          omega (arith, t.long, encode-least i t.typed t.bytes (subst (λ (fs : List Field). InOrder Writes fs t.bytes) (sym (same_layout ver i t.allowed)) t.fields));
    }

pub decoded-encodes : (ver : ℕ) (s : List ℕ) → bytes s → (at : ℕ) → (decode_at ver s at).code ≡ DONE → Encodes ver (decode_at ver s at).instr (decode_at ver s at).len
decoded-encodes ver s b at z = stands-encodes (decoded-stands s b ver at z)
