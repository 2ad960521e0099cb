-- Values in slots of sixteen bytes (01, "Values and shapes"): an i32 in the first 4, an i64 in the first 8, the rest zero.
use Rattle.std.specs.Prelude.{ℕ, ◌≡◌, Bool, true, false, List, map}
use Rattle.opcode.specs.Kind.{Kind}
use Rattle.machine.specs.Value.{Value, kind_of, AllInRange, all_bytes}

-- the bytes are those of these values, of these kinds, one slot after the other
pub record InSlots (ks : List Kind) (bs : List ℕ) (vs : List Value) : Type 0 where
  pub kinds : map kind_of vs ≡ ks
  pub range : AllInRange vs
  pub bytes : bs ≡ all_bytes vs

-- the answer to whether P
pub data Tells (P : Type 0) : Bool → Type 0 where
  yes : P → Tells P true
  no : (P → ⊥) → Tells P false
