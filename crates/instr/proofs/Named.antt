-- What was decoded has the id of the opcode that was read; a refusal has id 0.
use Prim.Native.Nat.{ℕ, ◌≤◌, ◌<◌}
use mathlib.Core.Bool.{true, false}
use mathlib.Core.List.{List}
use mathlib.Core.Path.{◌≡◌, refl, ◌∙◌}
use native.Mathlib.Omega.{arith}
use Rattle.card.specs.Card.{DONE, OPCODE, FLOAT}
use Rattle.opcode.specs.Table.{Code, Row, carried, float, unassigned, row_at}
use Rattle.opcode.specs.Immediate.{Immediates, nothing, index, block_type, word, long, memory, memory_lane, lane_index, sixteen_bytes, sixteen_lanes, immediates, moved_by, lanes_of}
use Rattle.opcode.specs.Number.{id_of, row_of}
use Rattle.opcode.specs.Entry.{entry_of}
use Rattle.opcode.proofs.Id.{row-of-id}
use Rattle.opcode.proofs.Inverse.{row-once}
use Rattle.opcode.proofs.Versions.{row-latest}
use Rattle.instr.specs.Layout.{Head, head, refusal}
use Rattle.instr.specs.Decode.{Item, got, no, and_then, number_item, lane_at, block_at, exponent_at, lanes_at, sixteen_at, immediates_at, body_of}
use Rattle.instr.specs.Fetch.{fetch_of}
use Rattle.instr.specs.declared.Decoded.{Decoded}
use Rattle.instr.proofs.Onward.{Onward, number-onward, exponent-onward, lane-onward, block-onward, lanes-onward, sixteen-onward}

abbrev id_in : Decoded → ℕ
id_in d = id_of d.instr.first d.instr.number

-- it is this one, or 0 in a refusal
pub record Named (id : ℕ) (d : Decoded) : Type 0 where
  pub told : d.code ≡ DONE → id_in d ≡ id
  pub untold : (d.code ≡ DONE → ⊥) → id_in d ≡ 0

named : {id : ℕ} {d : Decoded} → d.code ≡ DONE → id_in d ≡ id → Named id d
named done is = record { told = λ z. is; untold = λ z. absurd (z done) }

refused : {id : ℕ} (c l : ℕ) → (c ≡ DONE → ⊥) → Named id (refusal c l)
refused c l h = record { told = λ z. absurd (h z); untold = λ z. refl }

then-named : {id at : ℕ} (i : Item) (f : ℕ → ℕ → Decoded) → Onward at i → ((v q : ℕ) → at ≤ q → Named id (f v q)) → Named id (and_then i f)
then-named (got v q) f h k = k v q h
then-named (no c l) f h k = refused c l h

module _ (s : List ℕ) (at p : ℕ) (h : Head) where
  class-named : (k : Immediates) (m n : ℕ) → Named (id_of h.first h.number) (immediates_at k m n s at p h)
  unfolding immediates_at
  class-named nothing m n = named refl refl
  class-named index m n = then-named (number_item false 32 s p) _ (number-onward 0 s false 32 p (omega arith)) (λ v q l. named refl refl)
  class-named block_type m n = then-named (block_at s p) _ (block-onward 0 s p (omega arith)) (λ v q l. named refl refl)
  class-named word m n = then-named (number_item true 32 s p) _ (number-onward 0 s true 32 p (omega arith)) (λ v q l. named refl refl)
  class-named long m n = then-named (number_item true 64 s p) _ (number-onward 0 s true 64 p (omega arith)) (λ v q l. named refl refl)
  class-named memory m n =
      then-named (exponent_at m s p) _ (exponent-onward 0 s m p (omega arith)) (λ a q l.
      then-named (number_item false 32 s q) _ (number-onward 0 s false 32 q l) (λ o r k. named refl refl))
  class-named memory_lane m n =
      then-named (exponent_at m s p) _ (exponent-onward 0 s m p (omega arith)) (λ a q l.
      then-named (number_item false 32 s q) _ (number-onward 0 s false 32 q l) (λ o r k.
      then-named (lane_at n s r) _ (lane-onward 0 s n r k) (λ i t j. named refl refl)))
  class-named lane_index m n = then-named (lane_at n s p) _ (lane-onward 0 s n p (omega arith)) (λ v q l. named refl refl)
  class-named sixteen_bytes m n = then-named (sixteen_at s p) _ (sixteen-onward 0 s p (omega arith)) (λ v q l. named refl refl)
  class-named sixteen_lanes m n = then-named (lanes_at 16 s p) _ (lanes-onward 0 s 16 p (omega arith)) (λ v q l. named refl refl)

  -- only a row that is carried is decoded, and it has one id
  row_named : (id : ℕ) (r : Row) → row_of id ≡ r → ((c : Code) → r ≡ carried c → row_of (id_of h.first h.number) ≡ carried c) → Named id (body_of r s at p h)
  unfolding body_of
  row_named id (carried c) e f =
      let n = class-named (immediates c) (moved_by (carried c)) (lanes_of (carried c)) in
      record { told = λ z. n.told z ∙ row-once (f c refl) e; untold = n.untold }
  row_named id float e f = refused FLOAT at (λ z. omega (arith, z))
  row_named id unassigned e f = refused OPCODE at (λ z. omega (arith, z))

module _ (ver : ℕ) (s : List ℕ) (at p first n id : ℕ) (l : first < 256) where
  pub body-named : row_of id ≡ row_at ver first n → Named id (body_of (row_at ver first n) s at p (head first n))
  body-named e = row_named s at p (head first n) id (row_at ver first n) e (λ c f. row-of-id first n l ∙ row-latest ver first n f)

pub fetched : (d : Decoded) (id e : ℕ) → id_of d.instr.first d.instr.number ≡ id → e ≡ entry_of (row_of id)
    → record { id = id; entry = e; decoded = d } ≡ fetch_of d
fetched d id e f g = rw (g, ← f)
