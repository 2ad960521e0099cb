-- A class tells its row, the bytes moved are a power of two up to 16, and a lane index chooses among at most 16.
use mathlib.Core.Path.{◌≡◌, refl, sym, ap, ◌∙◌}
use mathlib.Core.List.{[], ◌∷◌}
use mathlib.Core.Logic.{◌⊎◌, inl, inr, ⊎_elim}
use Prim.Native.Nat.{ℕ, ◌^◌, ◌≤◌, ◌<◌}
use native.Mathlib.Omega.{arith}
use lib.Dec.{lit≤, lit<}
use lib.ListN.{get_or}
use lib.Pow.{pow_mono}
use mir.Syntax.{Width, w8, w16, w32, w64, w128}
use mir.Val.{bytes}
use Rattle.operation.specs.Shape.{lanes}
use Rattle.operation.specs.Op.{Whole, Widen, Repeat, ZeroPad, Op, Load, LoadLane, Store, StoreLane, Const, Shuffle, Splat, ExtractLane, ReplaceLane, Unary}
use Rattle.operation.specs.Op.{Binary, Bitselect, Test, Shift}
use Rattle.opcode.specs.Table.{Code, plain, control, vector, Row, carried, float, unassigned}
use Rattle.opcode.specs.Immediate.{Immediates, nothing, index, block_type, word, long, memory, memory_lane, lane_index, sixteen_bytes, sixteen_lanes}
use Rattle.opcode.specs.Immediate.{immediates, moved, lane_count, moved_by, lanes_of}
use Rattle.opcode.specs.Number.{class_number, CLASS_FLOAT, CLASS_UNASSIGNED, class_of}

abbrev class_at : ℕ → Immediates
class_at n = get_or (nothing ∷ index ∷ word ∷ long ∷ memory ∷ memory_lane ∷ lane_index ∷ sixteen_bytes ∷ sixteen_lanes ∷ []) n block_type

class_back : (i : Immediates) → class_at (class_number i) ≡ i
class_back nothing = refl
class_back index = refl
class_back word = refl
class_back long = refl
class_back memory = refl
class_back memory_lane = refl
class_back lane_index = refl
class_back sixteen_bytes = refl
class_back sixteen_lanes = refl
class_back block_type = refl

class-small : (i : Immediates) → class_number i < CLASS_FLOAT
class-small nothing = lit< tt
class-small index = lit< tt
class-small word = lit< tt
class-small long = lit< tt
class-small memory = lit< tt
class-small memory_lane = lit< tt
class-small lane_index = lit< tt
class-small sixteen_bytes = lit< tt
class-small sixteen_lanes = lit< tt
class-small block_type = lit< tt

pub class-once : {i j : Immediates} → class_number i ≡ class_number j → i ≡ j
class-once {i} {j} e = sym (class_back i) ∙ ap class_at e ∙ class_back j

-- what a class says of the row that has it
pub class-carried : (r : Row) (i : Immediates) → class_of r ≡ class_number i → (c : Code) × (r ≡ carried c) × (immediates c ≡ i)
class-carried (carried c) i e = (c, refl, class-once e)
class-carried float i e = let none : ⊥ = omega (arith, class-small i) in absurd none
class-carried unassigned i e = let none : ⊥ = omega (arith, class-small i) in absurd none

pub class_float : (r : Row) → class_of r ≡ CLASS_FLOAT → r ≡ float
class_float (carried c) e = let none : ⊥ = omega (arith, class-small (immediates c)) in absurd none
class_float float e = refl
class_float unassigned e = let none : ⊥ = omega arith in absurd none

pub class-unassigned : (r : Row) → class_of r ≡ CLASS_UNASSIGNED → r ≡ unassigned
class-unassigned (carried c) e = let none : ⊥ = omega (arith, class-small (immediates c)) in absurd none
class-unassigned float e = let none : ⊥ = omega arith in absurd none
class-unassigned unassigned e = refl

pub row-class-small : (r : Row) → class_of r ≤ CLASS_UNASSIGNED
row-class-small (carried c) = omega (arith, class-small (immediates c))
row-class-small float = lit≤ tt
row-class-small unassigned = lit≤ tt

-- ---- the bytes moved

width_power : (w : Width) → (k : ℕ) × (bytes w ≡ 2 ^ k) × (k ≤ 4)
width_power w8 = (0, refl, lit≤ tt)
width_power w16 = (1, refl, lit≤ tt)
width_power w32 = (2, refl, lit≤ tt)
width_power w64 = (3, refl, lit≤ tt)
width_power w128 = (4, refl, lit≤ tt)

-- k is the largest exponent that an alignment may have
pub moved-power : (o : Op) → (moved o ≡ 0) ⊎ ((k : ℕ) × (moved o ≡ 2 ^ k) × (k ≤ 4))
moved-power (Load Whole) = inr (4, refl, lit≤ tt)
moved-power (Load (Widen s w)) = inr (3, refl, lit≤ tt)
moved-power (Load (Repeat w)) = inr (width_power w)
moved-power (Load (ZeroPad w)) = inr (width_power w)
moved-power (LoadLane w) = inr (width_power w)
moved-power Store = inr (4, refl, lit≤ tt)
moved-power (StoreLane w) = inr (width_power w)
moved-power Const = inl refl
moved-power Shuffle = inl refl
moved-power (Splat w) = inl refl
moved-power (ExtractLane s w) = inl refl
moved-power (ReplaceLane w) = inl refl
moved-power (Unary o) = inl refl
moved-power (Binary o) = inl refl
moved-power Bitselect = inl refl
moved-power (Test o) = inl refl
moved-power (Shift o) = inl refl

pub moved-small : (o : Op) → moved o ≤ 16
moved-small o = ⊎_elim (λ e. omega arith) (λ p. omega (arith, pow_mono p.2)) (moved-power o)

pub row-moved-small : (r : Row) → moved_by r ≤ 16
row-moved-small (carried (plain p)) = lit≤ tt
row-moved-small (carried (control k)) = lit≤ tt
row-moved-small (carried (vector o)) = moved-small o
row-moved-small float = lit≤ tt
row-moved-small unassigned = lit≤ tt

-- ---- the lanes

width-lanes : (w : Width) → lanes w ≤ 16
width-lanes w8 = lit≤ tt
width-lanes w16 = lit≤ tt
width-lanes w32 = lit≤ tt
width-lanes w64 = lit≤ tt
width-lanes w128 = lit≤ tt

pub lanes_small : (o : Op) → lane_count o ≤ 16
lanes_small (Load l) = lit≤ tt
lanes_small (LoadLane w) = width-lanes w
lanes_small Store = lit≤ tt
lanes_small (StoreLane w) = width-lanes w
lanes_small Const = lit≤ tt
lanes_small Shuffle = lit≤ tt
lanes_small (Splat w) = lit≤ tt
lanes_small (ExtractLane s w) = width-lanes w
lanes_small (ReplaceLane w) = width-lanes w
lanes_small (Unary o) = lit≤ tt
lanes_small (Binary o) = lit≤ tt
lanes_small Bitselect = lit≤ tt
lanes_small (Test o) = lit≤ tt
lanes_small (Shift o) = lit≤ tt

pub row-lanes-small : (r : Row) → lanes_of r ≤ 16
row-lanes-small (carried (plain p)) = lit≤ tt
row-lanes-small (carried (control k)) = lit≤ tt
row-lanes-small (carried (vector o)) = lanes_small o
row-lanes-small float = lit≤ tt
row-lanes-small unassigned = lit≤ tt
