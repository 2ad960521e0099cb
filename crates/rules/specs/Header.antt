-- A strip's header (01, "The strip file"): what it declares, and the bytes that declare it.
use Rattle.std.specs.Prelude.{ℕ, ◌≤◌, ◌≡◌, true, List, [], ◌∷◌, ◌++◌, map, length}
use Rattle.limits.specs.Limits.{file_limit, parameter_limit, local_limit, result_limit}
use Rattle.opcode.specs.Kind.{Kind, kind_byte}
use Rattle.opcode.specs.Table.{known}

-- a version of the format
abbrev pub Version : ℕ → Type 0
Version v = known v ≡ true

pub record Header : Type 0 where
  pub version : ℕ
  pub parameters : List Kind
  pub further : List Kind
  pub results : List Kind

-- numbered parameters first
abbrev pub locals : Header → List Kind
locals h = h.parameters ++ h.further

abbrev pub mark : List ℕ
mark = 0x57 ∷ 0x47 ∷ 0x50 ∷ []

abbrev pub version_bytes : ℕ → List ℕ
version_bytes v = v ∷ 0 ∷ []

abbrev pub counts : Header → List ℕ
counts h = length h.parameters ∷ length h.further ∷ length h.results ∷ []

abbrev pub kinds : Header → List Kind
kinds h = locals h ++ h.results

abbrev pub header_bytes : Header → List ℕ
header_bytes h = mark ++ version_bytes h.version ++ counts h ++ map kind_byte (kinds h)

-- within the limits
pub record Few (p l r : ℕ) : Type 0 where
  pub parameters : p ≤ parameter_limit
  pub further : l ≤ local_limit
  pub results : r ≤ result_limit

-- the strip s declares h, and its instructions are these bytes
pub record Declares (s : List ℕ) (h : Header) : Type 0 where
  pub sized : length s ≤ file_limit
  pub versioned : Version h.version
  pub few : Few (length h.parameters) (length h.further) (length h.results)
  pub body : List ℕ
  pub bytes : s ≡ header_bytes h ++ body
