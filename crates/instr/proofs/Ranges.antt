-- What the other crates ask of an instruction that was decoded.
use Prim.Native.Nat.{ℕ, ◌+◌, ◌<◌, ◌≤◌}
use mathlib.Core.List.{List, ◌++◌}
use mathlib.Core.Logic.{◌⊎◌, inl, inr}
use mathlib.Core.Path.{◌≡◌, refl, sym, ap, ap₂, subst, ◌∙◌}
use native.Mathlib.Omega.{arith}
use lib.ListN.{length, length-append, length-drop}
use Rattle.opcode.specs.Table.{End, Code, plain, Row, carried, float, unassigned, latest, plain_at, row_at}
use Rattle.opcode.specs.Immediate.{Immediates, memory_lane, lane_index, sixteen_lanes, immediates, moved_by, lanes_of}
use Rattle.opcode.specs.Number.{id_of}
use Rattle.opcode.proofs.Id.{Way, byte, number, beyond, way, row-of-id}
use Rattle.opcode.proofs.Inverse.{byte_of, code-back}
use Rattle.opcode.proofs.Versions.{row-latest}
use Rattle.instr.specs.Layout.{Field, Writes, InOrder, opcode_fields, immediate_fields, fields_of, row_in, layout, Below, AllowedIn, Allowed, Stands}
use Rattle.instr.specs.declared.Instr.{Instr}

-- what stands has bytes, and lies in the file
pub stands-some : {ver : ℕ} {s : List ℕ} {at : ℕ} {i : Instr} {n : ℕ} → Stands ver s at i n → 0 < n
unfolding layout
stands-some t = omega (arith, t.long, ap length t.fields.2, length-append t.fields.0 t.fields.1, ap length t.fields.3)

pub stands-inside : {ver : ℕ} {s : List ℕ} {at : ℕ} {i : Instr} {n : ℕ} → Stands ver s at i n → at + n ≤ length s
stands-inside {s = s} {at = at} t = omega (arith, stands-some t, t.long, length-drop at s, ap length t.here, length-append t.bytes t.rest)

-- lanes are in their bounds
module _ (c : Code) (i : Instr) (a : Allowed (carried c) i) where
  pub lane-range : (immediates c ≡ lane_index) ⊎ (immediates c ≡ memory_lane) → i.lane < lanes_of (carried c)
  unfolding Allowed AllowedIn
  lane-range (inl e) = subst (λ (k : Immediates). AllowedIn k (moved_by (carried c)) (lanes_of (carried c)) i) e a
  lane-range (inr e) = (subst (λ (k : Immediates). AllowedIn k (moved_by (carried c)) (lanes_of (carried c)) i) e a).1

  pub shuffle-range : immediates c ≡ sixteen_lanes → Below 32 i.bytes
  unfolding Allowed AllowedIn
  shuffle-range e = subst (λ (k : Immediates). AllowedIn k (moved_by (carried c)) (lanes_of (carried c)) i) e a

-- `end` is the byte 0B, and no other instruction begins with it
pub end-first : (ver : ℕ) (i : Instr) → i.first < 256 → row_in ver i ≡ carried (plain End) → i.first ≡ 0x0B
unfolding byte_of
end-first ver i l e = by (way i.first i.number) (code-back (id_of i.first i.number) (row-of-id i.first i.number l ∙ row-latest ver i.first i.number e))
  where
    by : Way i.first i.number → 0x0B ≡ id_of i.first i.number → i.first ≡ 0x0B
    by (byte d f g) h = sym f ∙ sym h
    by (number f l g r) h = absurd (omega arith)
    by (beyond f l g r) h = absurd (omega arith)

first-end : (ver : ℕ) (i : Instr) → Allowed (row_in ver i) i → i.first ≡ 0x0B → row_in ver i ≡ carried (plain End)
unfolding plain_at Allowed
first-end ver i a e = by (row_in ver i) refl a
  where
    by : (r : Row) → row_in ver i ≡ r → Allowed r i → r ≡ carried (plain End)
    by (carried c) f g = sym (row-latest ver i.first i.number f) ∙ ap (λ (b : ℕ). row_at latest b i.number) e
    by float f g = absurd g
    by unassigned f g = absurd g

pub end-one : {ver : ℕ} {s : List ℕ} {at : ℕ} {i : Instr} {n : ℕ} → Stands ver s at i n → i.first ≡ 0x0B → n ≡ 1
unfolding layout fields_of immediate_fields plain_at
end-one {ver = ver} {i = i} t e =
    let o = subst (λ (fs : List Field). InOrder Writes fs t.bytes) (ap₂ (λ (b : ℕ) (r : Row). opcode_fields b i.number ++ fields_of r i) e (first-end ver i t.allowed e)) t.fields in
    omega (arith, t.long, ap length o.2, length-append o.0 o.1, ap length o.3, ap length o.4)
