-- What an operation takes from the stack and leaves on it: 000's signatures, the kinds bottom first, so the last argument is on top
-- and an address lies below any vector (01, "Instructions").
use Rattle.std.specs.Prelude.{List, [], ◌∷◌}
use Rattle.std.proofs.Math.Option.{Option, none, some}
use Rattle.std.specs.Int.{Width, w8, w16, w32, w64, w128}
use Rattle.operation.specs.Op.{Op, Load, LoadLane, Store, StoreLane, Const, Shuffle, Splat, ExtractLane, ReplaceLane, Unary, Binary, Bitselect, Test, Shift}
use Rattle.opcode.specs.Kind.{Kind, i32, i64, v128}
use Rattle.opcode.specs.Table.{End, Drop, LocalGet, LocalSet, LocalTee, I32Const, I64Const, I32Add, I32Sub, I32Eqz, I32LtU, Code, plain, control, vector}

infix 20 ◌⇒◌
pub data Signature : Type 0 where
  ◌⇒◌ : List Kind → List Kind → Signature

abbrev pub takes : Signature → List Kind
takes (ks ⇒ ls) = ks

abbrev pub leaves : Signature → List Kind
leaves (ks ⇒ ls) = ls

-- the scalar that a lane is made of or taken out as
abbrev pub scalar : Width → Kind
scalar w8 = i32
scalar w16 = i32
scalar w32 = i32
scalar w64 = i64
scalar w128 = v128

abbrev pub signature : Op → Signature
signature (Load l) = i32 ∷ [] ⇒ v128 ∷ []
signature (LoadLane w) = i32 ∷ v128 ∷ [] ⇒ v128 ∷ []
signature Store = i32 ∷ v128 ∷ [] ⇒ []
signature (StoreLane w) = i32 ∷ v128 ∷ [] ⇒ []
signature Const = [] ⇒ v128 ∷ []
signature Shuffle = v128 ∷ v128 ∷ [] ⇒ v128 ∷ []
signature (Splat w) = scalar w ∷ [] ⇒ v128 ∷ []
signature (ExtractLane s w) = v128 ∷ [] ⇒ scalar w ∷ []
signature (ReplaceLane w) = v128 ∷ scalar w ∷ [] ⇒ v128 ∷ []
signature (Unary o) = v128 ∷ [] ⇒ v128 ∷ []
signature (Binary o) = v128 ∷ v128 ∷ [] ⇒ v128 ∷ []
signature Bitselect = v128 ∷ v128 ∷ v128 ∷ [] ⇒ v128 ∷ []
signature (Test o) = v128 ∷ [] ⇒ i32 ∷ []
signature (Shift o) = v128 ∷ i32 ∷ [] ⇒ v128 ∷ []

-- drop and local.get, set and tee go by the kind on the stack or of the local, end and branches by the block: they have no signature here
abbrev pub effect : Code → Option Signature
effect (plain End) = none
effect (plain Drop) = none
effect (plain LocalGet) = none
effect (plain LocalSet) = none
effect (plain LocalTee) = none
effect (plain I32Const) = some ([] ⇒ i32 ∷ [])
effect (plain I64Const) = some ([] ⇒ i64 ∷ [])
effect (plain I32Add) = some (i32 ∷ i32 ∷ [] ⇒ i32 ∷ [])
effect (plain I32Sub) = some (i32 ∷ i32 ∷ [] ⇒ i32 ∷ [])
effect (plain I32Eqz) = some (i32 ∷ [] ⇒ i32 ∷ [])
effect (plain I32LtU) = some (i32 ∷ i32 ∷ [] ⇒ i32 ∷ [])
effect (control c) = none
effect (vector o) = some (signature o)
