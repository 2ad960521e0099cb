-- Block types (02, C-13; Core 2.0, 5.4.1): one byte, and what a block of that type leaves.
use Rattle.std.specs.Prelude.{ℕ, Bool, false, cond, ◌||◌, List, [], ◌∷◌, eqb}
use Rattle.opcode.specs.Kind.{Kind, i32, i64, v128, kind_byte}

abbrev pub block_types : List (ℕ × List Kind)
block_types =
    (0x40, []) ∷
    (kind_byte i32, i32 ∷ []) ∷
    (kind_byte i64, i64 ∷ []) ∷
    (kind_byte v128, v128 ∷ []) ∷
    []

abbrev pub is_in : List (ℕ × List Kind) → ℕ → Bool
is_in [] b = false
is_in (t ∷ ts) b = eqb b t.0 || is_in ts b

abbrev pub results_in : List (ℕ × List Kind) → ℕ → List Kind
results_in [] b = []
results_in (t ∷ ts) b = cond (eqb b t.0) t.1 (results_in ts b)

abbrev pub is_block_type : ℕ → Bool
is_block_type = is_in block_types

-- of a byte that is no block type: none
abbrev pub block_results : ℕ → List Kind
block_results = results_in block_types
