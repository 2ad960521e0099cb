-- The index of an instruction that was read: a local, a block, or its block type.
use Prim.Native.Nat.{ℕ, ◌<◌}
use mathlib.Core.Path.{◌≡◌, refl, sym, ap, subst, ◌∙◌}
use mathlib.Core.Bool.{Bool, true, cond}
use mathlib.Core.List.{List}
use mathlib.Core.Logic.{◌⊎◌, inl, inr}
use native.Mathlib.Omega.{arith}
use borrow.Author.Tests.{ne_eqb}
use lib.Dec.{eqb, lit<}
use Rattle.opcode.specs.BlockType.{is_block_type}
use Rattle.opcode.specs.Table.{End, Drop, LocalGet, LocalSet, LocalTee, I32Const, I64Const, I32Add, I32Sub, I32Eqz, I32LtU, Block, Loop, Br, BrIf, Code, plain, control, vector, Row, carried, float, unassigned}
use Rattle.operation.specs.Op.{Load, LoadLane, Store, StoreLane, Const, Shuffle, Splat, ExtractLane, ReplaceLane, Unary, Binary, Bitselect, Test, Shift}
use Rattle.opcode.specs.Immediate.{Immediates, nothing, index, block_type, word, long, memory, memory_lane, lane_index, sixteen_bytes, sixteen_lanes, immediates}
use Rattle.opcode.specs.Number.{class_number}
use Rattle.instr.specs.declared.Instr.{Instr}
use Rattle.instr.specs.Layout.{Head, AllowedIn, Allowed, row_in, kept, kept_of, head_of}
use Rattle.rules.specs.Typing.{Opens, block_opens, loop_opens}
use Rattle.rules.specs.Strip.{Reads}
use Rattle.checker.proofs.Words.{type-some}

pub row_carried : (w : Row) (i : Instr) → Allowed w i → (c : Code) × (w ≡ carried c)
unfolding Allowed
row_carried (carried c) i a = (c, refl)
row_carried float i a = absurd a
row_carried unassigned i a = absurd a

-- what Opens has a block type; the others have none
opens-allowed : {c : Code} → Opens c → (i : Instr) → Allowed (carried c) i → is_block_type i.block ≡ true
unfolding Allowed AllowedIn
opens-allowed block_opens i a = a
opens-allowed loop_opens i a = a

lesser : {k : Immediates} → class_number k < 9 → k ≡ block_type → ⊥
lesser l e = omega (arith, l, ap class_number e)

has-type : (c : Code) → (immediates c ≡ block_type → ⊥) ⊎ Opens c
has-type (plain End) = inl (lesser (lit< tt))
has-type (plain Drop) = inl (lesser (lit< tt))
has-type (plain LocalGet) = inl (lesser (lit< tt))
has-type (plain LocalSet) = inl (lesser (lit< tt))
has-type (plain LocalTee) = inl (lesser (lit< tt))
has-type (plain I32Const) = inl (lesser (lit< tt))
has-type (plain I64Const) = inl (lesser (lit< tt))
has-type (plain I32Add) = inl (lesser (lit< tt))
has-type (plain I32Sub) = inl (lesser (lit< tt))
has-type (plain I32Eqz) = inl (lesser (lit< tt))
has-type (plain I32LtU) = inl (lesser (lit< tt))
has-type (control Block) = inr block_opens
has-type (control Loop) = inr loop_opens
has-type (control Br) = inl (lesser (lit< tt))
has-type (control BrIf) = inl (lesser (lit< tt))
has-type (vector (Load l)) = inl (lesser (lit< tt))
has-type (vector (LoadLane w)) = inl (lesser (lit< tt))
has-type (vector Store) = inl (lesser (lit< tt))
has-type (vector (StoreLane w)) = inl (lesser (lit< tt))
has-type (vector Const) = inl (lesser (lit< tt))
has-type (vector Shuffle) = inl (lesser (lit< tt))
has-type (vector (Splat w)) = inl (lesser (lit< tt))
has-type (vector (ExtractLane t w)) = inl (lesser (lit< tt))
has-type (vector (ReplaceLane w)) = inl (lesser (lit< tt))
has-type (vector (Unary o)) = inl (lesser (lit< tt))
has-type (vector (Binary o)) = inl (lesser (lit< tt))
has-type (vector Bitselect) = inl (lesser (lit< tt))
has-type (vector (Test o)) = inl (lesser (lit< tt))
has-type (vector (Shift o)) = inl (lesser (lit< tt))

no_block : (k : Immediates) (h : Head) (i : Instr) → (k ≡ block_type → ⊥) → (kept k h i).block ≡ 0
no_block nothing h i f = refl
no_block index h i f = refl
no_block block_type h i f = absurd (f refl)
no_block word h i f = refl
no_block long h i f = refl
no_block memory h i f = refl
no_block memory_lane h i f = refl
no_block lane_index h i f = refl
no_block sixteen_bytes h i f = refl
no_block sixteen_lanes h i f = refl

kept_of_lem : (r : Row) (c : Code) (h : Head) (i : Instr) → r ≡ carried c → kept_of r h i ≡ kept (immediates c) h i
unfolding kept_of
kept_of_lem r c h i e = ap (λ (x : Row). kept_of x h i) e

no-type : (c : Code) → (Opens c → ⊥) → immediates c ≡ block_type → ⊥
no-type c f e = by (has-type c)
  where
    by : (immediates c ≡ block_type → ⊥) ⊎ Opens c → ⊥
    by (inl g) = g e
    by (inr o) = f o

module _ {v : ℕ} {s : List ℕ} {at m : ℕ} {i : Instr} {c : Code} (r : Reads v s at i c m) where
  lacks-block : (Opens c → ⊥) → i.block ≡ 0
  lacks-block f =
      sym (ap (λ (x : Instr). x.block) (sym (kept_of_lem (row_in v i) c (head_of i) i r.does) ∙ r.stands.lacking)) ∙ no_block (immediates c) (head_of i) i (no-type c f)

  block-typed : Opens c → is_block_type i.block ≡ true
  block-typed o = opens-allowed o i (subst (λ (x : Row). Allowed x i) r.does r.stands.allowed)

  pub index-named : (Opens c → ⊥) → cond (eqb i.block 0) i.index i.block ≡ i.index
  index-named f = ap (λ (b : ℕ). cond (eqb b 0) i.index b) (lacks-block f)

  pub index-typed : Opens c → (cond (eqb i.block 0) i.index i.block ≡ i.block) × (is_block_type i.block ≡ true)
  index-typed o =
      let t = block-typed o in
      (ap (λ (b : Bool). cond b i.index i.block) (ne_eqb i.block 0 (type-some i.block t)), t)
