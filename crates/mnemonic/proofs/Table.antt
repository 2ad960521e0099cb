-- The names in code are the table's.
use Prim.Native.Nat.{ℕ, ◌-◌, ◌≤◌, ◌<◌}
use mathlib.Core.Path.{◌≡◌, refl, sym, ap, ◌∙◌}
use mathlib.Core.Bool.{cond}
use mathlib.Core.List.{List, [], map}
use native.Mathlib.Omega.{arith}
use lib.Dec.{ltb}
use lib.ListN.{get_or, get_or-map}
use Rattle.std.specs.Borrow.{Bor}
use Rattle.std.specs.Prelude.{slice_index_or}
use Rattle.std.specs.List.{range_with_len}
use Rattle.std.proofs.lemmas.List.FromFn.{get_or-map-range_with_len}
use Rattle.opcode.specs.Ascii.{ascii}
use Rattle.opcode.specs.Table.{name, lines, unassigned, ◌is◌, vector_name, plain_lines, look_up_name, plain_name}
use Rattle.opcode.specs.Number.{name_of}
use Rattle.mnemonic.specs.declared.vector.TheConstants.{NAMES}

-- ---- those of a first byte

abbrev text : ℕ → List ℕ
text id = ascii (cond (ltb id 256) (look_up_name id plain_lines) (name (get_or lines (id - 256) ("" is unassigned))))

-- antt computes the text
pub named : {id k : ℕ} → id ≡ k → text k ≡ name_of id
unfolding name_of plain_name vector_name
named e = ap text (sym e)

-- ---- those after the prefix

abbrev texts : List (List ℕ)
texts = map (λ n. n.now) NAMES

all-texts : texts ≡ map name_of (range_with_len 256 256)
unfolding name_of vector_name
all-texts = refl

pub entry : (names : List (Bor (List ℕ))) (id : ℕ) → map (λ n. n.now) names ≡ texts → 256 ≤ id → id < 512
    → (slice_index_or names (id - 256) record { ref_ptr = (0, 0); now = [] }).now ≡ name_of id
entry names id e h l =
    sym (get_or-map (λ (n : Bor (List ℕ)). n.now) names (id - 256) record { ref_ptr = (0, 0); now = [] })
    ∙ ap (λ (ts : List (List ℕ)). slice_index_or ts (id - 256) []) (e ∙ all-texts)
    ∙ get_or-map-range_with_len name_of 256 256 (id - 256) id [] (omega arith) (omega arith)
