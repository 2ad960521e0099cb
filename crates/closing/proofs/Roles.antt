-- The group tells what an instruction does to the nesting.
use Prim.Native.Nat.{ℕ}
use mathlib.Core.Path.{◌≡◌, refl, ap, ◌∙◌}
use mathlib.Core.Bool.{Bool, true, false, cond, ◌||◌}
use lib.Dec.{eqb}
use borrow.Author.Tests.{eq-eqb, ne_eqb}
use Rattle.operation.specs.Op.{Load, LoadLane, Store, StoreLane, Const, Shuffle, Splat, ExtractLane, ReplaceLane, Unary, Binary, Bitselect, Test, Shift}
use Rattle.opcode.specs.Table.{End, Drop, LocalGet, LocalSet, LocalTee, I32Const, I64Const, I32Add, I32Sub, I32Eqz, I32LtU, Block, Loop, Br, BrIf, Code, plain}
use Rattle.opcode.specs.Table.{control, vector, Row, carried, float, unassigned}
use Rattle.opcode.specs.Number.{group_of, group_of_code}
use Rattle.standard.specs.Closing.{Role, opener, closer, neither, role}
use Rattle.closing.specs.Search.{role_of}

abbrev role_at : ℕ → Role
role_at g = cond (eqb g 0) closer (cond (eqb g 25 || eqb g 26) opener neither)

role-of : (c : Code) → role c ≡ role_at (group_of_code c)
role-of (plain End) = refl
role-of (plain Drop) = refl
role-of (plain LocalGet) = refl
role-of (plain LocalSet) = refl
role-of (plain LocalTee) = refl
role-of (plain I32Const) = refl
role-of (plain I64Const) = refl
role-of (plain I32Add) = refl
role-of (plain I32Sub) = refl
role-of (plain I32Eqz) = refl
role-of (plain I32LtU) = refl
role-of (control Block) = refl
role-of (control Loop) = refl
role-of (control Br) = refl
role-of (control BrIf) = refl
role-of (vector (Load l)) = refl
role-of (vector (LoadLane w)) = refl
role-of (vector Store) = refl
role-of (vector (StoreLane w)) = refl
role-of (vector Const) = refl
role-of (vector Shuffle) = refl
role-of (vector (Splat w)) = refl
role-of (vector (ExtractLane s w)) = refl
role-of (vector (ReplaceLane w)) = refl
role-of (vector (Unary o)) = refl
role-of (vector (Binary o)) = refl
role-of (vector Bitselect) = refl
role-of (vector (Test o)) = refl
role-of (vector (Shift o)) = refl

row-role : (r : Row) → role_of r ≡ role_at (group_of r)
row-role (carried c) = role-of c
row-role float = refl
row-role unassigned = refl

module _ (r : Row) {g : ℕ} (is : group_of r ≡ g) where
  told : role_of r ≡ role_at g
  told = row-role r ∙ ap role_at is

  pub is-closer : g ≡ 0 → role_of r ≡ closer
  is-closer e = told ∙ ap (λ (t : Bool). cond t closer (cond (eqb g 25 || eqb g 26) opener neither)) (eq-eqb g 0 e)

  inner : (g ≡ 0 → ⊥) → role_of r ≡ cond (eqb g 25 || eqb g 26) opener neither
  inner d = told ∙ ap (λ (t : Bool). cond t closer (cond (eqb g 25 || eqb g 26) opener neither)) (ne_eqb g 0 d)

  pub is-opener : (g ≡ 0 → ⊥) → (eqb g 25 || eqb g 26) ≡ true → role_of r ≡ opener
  is-opener d e = inner d ∙ ap (λ (t : Bool). cond t opener neither) e

  pub is-neither : (g ≡ 0 → ⊥) → (eqb g 25 || eqb g 26) ≡ false → role_of r ≡ neither
  is-neither d e = inner d ∙ ap (λ (t : Bool). cond t opener neither) e
