-- The groups: a group's number tells what the code is, so that what is said of each code of a group is said of the number.
use mathlib.Core.Path.{◌≡◌, sym, subst}
use mathlib.Core.List.{List, [], ◌∷◌}
use Prim.Native.Nat.{ℕ, zero, suc, ◌≤◌}
use lib.Dec.{lit≤}
use mir.Syntax.{Width}
use Rattle.scalar.specs.Scalar.{Sign}
use Rattle.operation.specs.Op.{Loadop, Unop, Binop, Testop, Shiftop, Op, Load, LoadLane, Store, StoreLane, Const, Shuffle, Splat, ExtractLane, ReplaceLane}
use Rattle.operation.specs.Op.{Unary, Binary, Bitselect, Test, Shift}
use Rattle.opcode.specs.Table.{Plain, End, Drop, LocalGet, LocalSet, LocalTee, I32Const, I64Const, I32Add, I32Sub, I32Eqz, I32LtU, Control, Block, Loop}
use Rattle.opcode.specs.Table.{Br, BrIf, Code, plain, control, vector, Row, carried, float, unassigned}
use Rattle.opcode.specs.Number.{group_of_plain, group_of_control, group_of_op, group_of_code, group_of}

-- the k-th, and nothing past the last
abbrev pick : List {1} (Type 0) → ℕ → Type 0
pick [] k = Unit {0}
pick (p ∷ ps) zero = p
pick (p ∷ ps) (suc k) = pick ps k

-- what P says of every code of group k
abbrev pub Each : (Code → Type 0) → ℕ → Type 0
Each P =
    pick (
    P (plain End)
    ∷ P (plain Drop)
    ∷ P (plain LocalGet)
    ∷ P (plain LocalSet)
    ∷ P (plain LocalTee)
    ∷ P (plain I32Const)
    ∷ P (plain I64Const)
    ∷ P (plain I32Add)
    ∷ P (plain I32Sub)
    ∷ ((l : Loadop) → P (vector (Load l)))
    ∷ ((w : Width) → P (vector (LoadLane w)))
    ∷ P (vector Store)
    ∷ ((w : Width) → P (vector (StoreLane w)))
    ∷ P (vector Const)
    ∷ P (vector Shuffle)
    ∷ ((w : Width) → P (vector (Splat w)))
    ∷ ((s : Sign) (w : Width) → P (vector (ExtractLane s w)))
    ∷ ((w : Width) → P (vector (ReplaceLane w)))
    ∷ ((o : Unop) → P (vector (Unary o)))
    ∷ ((o : Binop) → P (vector (Binary o)))
    ∷ P (vector Bitselect)
    ∷ ((o : Testop) → P (vector (Test o)))
    ∷ ((o : Shiftop) → P (vector (Shift o)))
    ∷ P (plain I32Eqz)
    ∷ P (plain I32LtU)
    ∷ P (control Block)
    ∷ P (control Loop)
    ∷ P (control Br)
    ∷ P (control BrIf)
    ∷ [])

pub by-group : (P : Code → Type 0) (k : ℕ) → Each P k → (c : Code) → group_of_code c ≡ k → P c
by-group P k h (plain End) e = subst (Each P) (sym e) h
by-group P k h (plain Drop) e = subst (Each P) (sym e) h
by-group P k h (plain LocalGet) e = subst (Each P) (sym e) h
by-group P k h (plain LocalSet) e = subst (Each P) (sym e) h
by-group P k h (plain LocalTee) e = subst (Each P) (sym e) h
by-group P k h (plain I32Const) e = subst (Each P) (sym e) h
by-group P k h (plain I64Const) e = subst (Each P) (sym e) h
by-group P k h (plain I32Add) e = subst (Each P) (sym e) h
by-group P k h (plain I32Sub) e = subst (Each P) (sym e) h
by-group P k h (plain I32Eqz) e = subst (Each P) (sym e) h
by-group P k h (plain I32LtU) e = subst (Each P) (sym e) h
by-group P k h (control Block) e = subst (Each P) (sym e) h
by-group P k h (control Loop) e = subst (Each P) (sym e) h
by-group P k h (control Br) e = subst (Each P) (sym e) h
by-group P k h (control BrIf) e = subst (Each P) (sym e) h
by-group P k h (vector (Load l)) e = subst (Each P) (sym e) h l
by-group P k h (vector (LoadLane w)) e = subst (Each P) (sym e) h w
by-group P k h (vector Store) e = subst (Each P) (sym e) h
by-group P k h (vector (StoreLane w)) e = subst (Each P) (sym e) h w
by-group P k h (vector Const) e = subst (Each P) (sym e) h
by-group P k h (vector Shuffle) e = subst (Each P) (sym e) h
by-group P k h (vector (Splat w)) e = subst (Each P) (sym e) h w
by-group P k h (vector (ExtractLane s w)) e = subst (Each P) (sym e) h s w
by-group P k h (vector (ReplaceLane w)) e = subst (Each P) (sym e) h w
by-group P k h (vector (Unary o)) e = subst (Each P) (sym e) h o
by-group P k h (vector (Binary o)) e = subst (Each P) (sym e) h o
by-group P k h (vector Bitselect) e = subst (Each P) (sym e) h
by-group P k h (vector (Test o)) e = subst (Each P) (sym e) h o
by-group P k h (vector (Shift o)) e = subst (Each P) (sym e) h o

plain-small : (p : Plain) → group_of_plain p ≤ 29
plain-small End = lit≤ tt
plain-small Drop = lit≤ tt
plain-small LocalGet = lit≤ tt
plain-small LocalSet = lit≤ tt
plain-small LocalTee = lit≤ tt
plain-small I32Const = lit≤ tt
plain-small I64Const = lit≤ tt
plain-small I32Add = lit≤ tt
plain-small I32Sub = lit≤ tt
plain-small I32Eqz = lit≤ tt
plain-small I32LtU = lit≤ tt

control-small : (k : Control) → group_of_control k ≤ 29
control-small Block = lit≤ tt
control-small Loop = lit≤ tt
control-small Br = lit≤ tt
control-small BrIf = lit≤ tt

op-small : (o : Op) → group_of_op o ≤ 29
op-small (Load l) = lit≤ tt
op-small (LoadLane w) = lit≤ tt
op-small Store = lit≤ tt
op-small (StoreLane w) = lit≤ tt
op-small Const = lit≤ tt
op-small Shuffle = lit≤ tt
op-small (Splat w) = lit≤ tt
op-small (ExtractLane s w) = lit≤ tt
op-small (ReplaceLane w) = lit≤ tt
op-small (Unary o) = lit≤ tt
op-small (Binary o) = lit≤ tt
op-small Bitselect = lit≤ tt
op-small (Test o) = lit≤ tt
op-small (Shift o) = lit≤ tt

pub row-group-small : (r : Row) → group_of r ≤ 29
row-group-small (carried (plain p)) = plain-small p
row-group-small (carried (control k)) = control-small k
row-group-small (carried (vector o)) = op-small o
row-group-small float = lit≤ tt
row-group-small unassigned = lit≤ tt
