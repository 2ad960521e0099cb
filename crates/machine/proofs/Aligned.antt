-- ALIGNED ACCESS EARNS NO DIFFERENT ANSWER (01, "What the terminal runs"): whatever the alignment exponent, an instruction comes to the same.
use Prim.Native.Nat.{ℕ}
use mathlib.Core.Path.{◌≡◌, refl}
use mathlib.Core.List.{List}
use Rattle.operation.specs.Op.{Op, Load, LoadLane, Store, StoreLane, Const, Shuffle, Splat, ExtractLane, ReplaceLane, Unary, Binary, Bitselect, Test, Shift}
use Rattle.opcode.specs.Kind.{Kind}
use Rattle.opcode.specs.Table.{Plain, End, Drop, LocalGet, LocalSet, LocalTee, I32Const, I64Const, I32Add, I32Sub, I32Eqz, I32LtU, Code, plain, control, vector}
use Rattle.instr.specs.declared.Instr.{Instr}
use Rattle.machine.specs.Exec.{State, exec_plain, exec_vector, exec}
use Rattle.machine.specs.Accesses.{aligned}

module _ (rs : List Kind) (i : Instr) (e : ℕ) (σ : State) where
  plain-alike : (p : Plain) → exec_plain rs p (aligned e i) σ ≡ exec_plain rs p i σ
  plain-alike End = refl
  plain-alike Drop = refl
  plain-alike LocalGet = refl
  plain-alike LocalSet = refl
  plain-alike LocalTee = refl
  plain-alike I32Const = refl
  plain-alike I64Const = refl
  plain-alike I32Add = refl
  plain-alike I32Sub = refl
  plain-alike I32Eqz = refl
  plain-alike I32LtU = refl

  vector-alike : (o : Op) → exec_vector o (aligned e i) σ ≡ exec_vector o i σ
  vector-alike (Load l) = refl
  vector-alike (LoadLane w) = refl
  vector-alike Store = refl
  vector-alike (StoreLane w) = refl
  vector-alike Const = refl
  vector-alike Shuffle = refl
  vector-alike (Splat w) = refl
  vector-alike (ExtractLane s w) = refl
  vector-alike (ReplaceLane w) = refl
  vector-alike (Unary o) = refl
  vector-alike (Binary o) = refl
  vector-alike Bitselect = refl
  vector-alike (Test o) = refl
  vector-alike (Shift o) = refl

  pub aligned-alike : (c : Code) → exec rs c (aligned e i) σ ≡ exec rs c i σ
  aligned-alike (plain p) = plain-alike p
  aligned-alike (control k) = refl
  aligned-alike (vector o) = vector-alike o
