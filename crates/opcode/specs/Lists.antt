-- What the documents write beside the opcodes: 01's two lists of numbers after FD ("Instructions"), the opcodes outside the prefix by version, the
-- immediate operands (002's column; 01; 02, C-13), the block types (02, C-13) and the kinds (01, "The strip file"). A second source, to which the
-- tables are held.
use Rattle.std.specs.Prelude.{ℕ, zero, suc, ◌-◌, ◌≡◌, Bool, true, false, List, [], ◌∷◌, ◌++◌, eqb}
use Rattle.opcode.specs.Ascii.{ascii}
use Rattle.opcode.specs.Kind.{Kind, kind_byte}
use Rattle.opcode.specs.Table.{Code, Row, carried, float, unassigned}
use Rattle.opcode.specs.Immediate.{Immediates, nothing, index, block_type, word, long, memory, memory_lane, lane_index, sixteen_bytes, sixteen_lanes}
use Rattle.opcode.specs.Immediate.{immediates, lanes_of}

infix 70 ◌to◌
abbrev pub up_from : ℕ → ℕ → List ℕ
up_from a zero = []
up_from a (suc n) = a ∷ up_from (suc a) n

-- the numbers from a to b
abbrev pub ◌to◌ : ℕ → ℕ → List ℕ
a to b = up_from a (suc b - a)

abbrev pub unassigneds : List ℕ
unassigneds =
    0x9A ∷ 0xA2 ∷ 0xA5 ∷ 0xA6 ∷ 0xAF ∷ 0xB0 ∷ 0xB2 ∷ 0xB3 ∷ 0xB4 ∷ 0xBB ∷ 0xC2 ∷ 0xC5 ∷ 0xC6 ∷ 0xCF ∷ 0xD0 ∷ 0xD2 ∷ 0xD3 ∷ 0xD4 ∷ 0xE2 ∷ 0xEE ∷ []

abbrev pub floats : List ℕ
floats =
    0x13 ∷ 0x14 ∷ 0x1F to 0x22 ++ 0x41 to 0x4C ++ 0x5E ∷ 0x5F ∷ 0x67 to 0x6A ++ 0x74 ∷ 0x75 ∷ 0x7A ∷ 0x94 ∷ 0xE0 ∷ 0xE1 ∷ 0xE3 to 0xED ++ 0xEF to 0xFF

abbrev pub is_float : Row → Bool
is_float (carried c) = false
is_float float = true
is_float unassigned = false

abbrev pub is_unassigned : Row → Bool
is_unassigned (carried c) = false
is_unassigned float = false
is_unassigned unassigned = true

abbrev pub is_carried : Row → Bool
is_carried (carried c) = true
is_carried float = false
is_carried unassigned = false

abbrev pub keep : Bool → ℕ → List ℕ → List ℕ
keep true n ns = n ∷ ns
keep false n ns = ns

-- those of the numbers at whose row in this table the test holds
abbrev pub those : (ℕ → Row) → (Row → Bool) → List ℕ → List ℕ
those table P [] = []
those table P (n ∷ ns) = keep (P (table n)) n (those table P ns)

-- the first bytes that are opcodes by themselves: 01's nine, and with them the six of 02, C-13, at Core's numbers
abbrev pub plains_of_one : List ℕ
plains_of_one = 0x0B ∷ 0x1A ∷ 0x20 ∷ 0x21 ∷ 0x22 ∷ 0x41 ∷ 0x42 ∷ 0x6A ∷ 0x6B ∷ []

abbrev pub plains_of_two : List ℕ
plains_of_two =
    0x02 ∷ 0x03 ∷ 0x0B ∷ 0x0C ∷ 0x0D ∷ 0x1A ∷ 0x20 ∷ 0x21 ∷ 0x22 ∷ 0x41 ∷ 0x42 ∷ 0x45 ∷ 0x49 ∷ 0x6A ∷ 0x6B ∷ []

-- ---- what follows an opcode that is carried

-- the row is carried, and its opcode is followed by these
abbrev pub With : Immediates → Row → Type 0
With i r = (c : Code) × (r ≡ carried c) × (immediates c ≡ i)

-- the first bytes with each class of immediates (01; 02, C-13)
abbrev pub plains_with : Immediates → List ℕ
plains_with nothing = 0x0B ∷ 0x1A ∷ 0x45 ∷ 0x49 ∷ 0x6A ∷ 0x6B ∷ []
plains_with index = 0x0C ∷ 0x0D ∷ 0x20 ∷ 0x21 ∷ 0x22 ∷ []  -- u32
plains_with block_type = 0x02 ∷ 0x03 ∷ []
plains_with word = 0x41 ∷ []  -- s32
plains_with long = 0x42 ∷ []  -- s64
plains_with memory = []
plains_with memory_lane = []
plains_with lane_index = []
plains_with sixteen_bytes = []
plains_with sixteen_lanes = []

-- the numbers after FD with each entry of 002's column "Immediate operands"; the I of ImmLaneIdx{I} stands below
abbrev pub vectors_with : Immediates → List ℕ
vectors_with nothing =
    0x0E to 0x12 ++ 0x23 to 0x40 ++ 0x4D to 0x53 ++ 0x60 to 0x66 ++ 0x6B to 0x73 ++ 0x76 to 0x79 ++ 0x7B to 0x93 ++ 0x95 to 0x99 ++ 0x9B to 0xA1 ++ 0xA3
    ∷ 0xA4 ∷ 0xA7 to 0xAE ++ 0xB1 ∷ 0xB5 to 0xBA ++ 0xBC to 0xC1 ++ 0xC3 ∷ 0xC4 ∷ 0xC7 to 0xCE ++ 0xD1 ∷ 0xD5 to 0xDF  -- -
vectors_with index = []
vectors_with block_type = []
vectors_with word = []
vectors_with long = []
vectors_with memory = 0x00 to 0x0B ++ 0x5C ∷ 0x5D ∷ []  -- m:memarg
vectors_with memory_lane = 0x54 to 0x5B  -- m:memarg, i:ImmLaneIdx{I}
vectors_with lane_index = 0x15 to 0x1E  -- i:ImmLaneIdx{I}
vectors_with sixteen_bytes = 0x0C ∷ []  -- i:ImmByte[16]
vectors_with sixteen_lanes = 0x0D ∷ []  -- s:ImmLaneIdx32[16]

abbrev pub is_of : ℕ → Row → Bool
is_of n r = eqb (lanes_of r) n

-- each I, which the lane index is below, and the numbers that have it
abbrev pub lane_indices : List (ℕ × List ℕ)
lane_indices =
    (16, 0x15 to 0x17 ++ 0x54 ∷ 0x58 ∷ []) ∷
    (8, 0x18 to 0x1A ++ 0x55 ∷ 0x59 ∷ []) ∷
    (4, 0x1B ∷ 0x1C ∷ 0x56 ∷ 0x5A ∷ []) ∷
    (2, 0x1D ∷ 0x1E ∷ 0x57 ∷ 0x5B ∷ []) ∷
    []

-- ---- kinds

-- a kind's byte, and its name
abbrev pub kind_bytes : List (ℕ × List ℕ)
kind_bytes = (0x7F, ascii "i32") ∷ (0x7E, ascii "i64") ∷ (0x7B, ascii "v128") ∷ []

-- a block type: 40, which leaves nothing, or the byte of the kind that it leaves (02, C-13)
pub data BlockType : ℕ → Type 0 where
  empty : BlockType 0x40
  kind : (k : Kind) → BlockType (kind_byte k)
