-- Which instruction is refused, with which code and place, in the card's words (01, "Numbers on the inspector's card": 2 and 7 to 11; 02, C-13: 6
-- after 8): "left to right, byte by byte, each item judged as soon as it is read". Numbers are those of Core's grammar. Written without the decoder.
use Rattle.std.specs.Prelude.{ℕ, ◌+◌, ◌≤◌, ◌<◌, ◌^◌, Bool, true, false, List, [], ◌∷◌, ◌≡◌, length, drop, replicate}
use Rattle.card.specs.Card.{SHORT, KIND, OPCODE, FLOAT, NUMBER, LANE, ALIGN}
use Rattle.leb128.specs.Bits.{integer}
use Rattle.leb128.specs.Grammar.{Stands as NumberStands, Cut, Nothing}
use Rattle.opcode.specs.BlockType.{is_block_type}
use Rattle.opcode.specs.Immediate.{Immediates, nothing, index, block_type, word, long, memory, memory_lane, lane_index, sixteen_bytes, sixteen_lanes, immediates, moved_by, lanes_of}
use Rattle.opcode.specs.Table.{Code, carried, float, unassigned, PREFIX, row_at}
use Rattle.instr.specs.Layout.{Stands, found, refusal}
use Rattle.instr.specs.declared.Instr.{Instr}
use Rattle.instr.specs.declared.Decoded.{Decoded}

-- ---- one item, read at the place p of s

-- how it is written: a number of N bits, signed or not; or one byte
pub data Form : Type 0 where
  number : Bool → ℕ → Form
  byte : Form

-- the value v stands there, up to q; a number's is given by its bits
pub data ItemAt (s : List ℕ) (p : ℕ) : Form → ℕ → ℕ → Type 0 where
  a_number : {sign : Bool} {N v n : ℕ} → NumberStands sign N s p (integer sign N v) n → ItemAt s p (number sign N) v (p + n)
  a_byte : {v : ℕ} {rest : List ℕ} → drop p s ≡ v ∷ rest → ItemAt s p byte v (p + 1)

-- the file stops before it is whole
pub data Stops (s : List ℕ) (p : ℕ) : Form → Type 0 where
  cut_number : {sign : Bool} {N : ℕ} → Cut sign N s p → Stops s p (number sign N)
  no_byte : length s ≤ p → Stops s p byte

-- it is too long, or has bad last bits
pub data Bad (s : List ℕ) (p : ℕ) : Form → Type 0 where
  bad_number : {sign : Bool} {N : ℕ} → Nothing sign N s p → Bad s p (number sign N)

-- what is asked of it beside its form
pub data Part : Type 0 where
  any : Form → Part  -- nothing
  block : Part  -- to be a block type
  lane : ℕ → Part  -- to be below this
  exponent : ℕ → Part  -- 2 to it to be at most this

abbrev pub form : Part → Form
form (any f) = f
form block = byte
form (lane n) = byte
form (exponent m) = number false 32

abbrev pub Permits : Part → ℕ → Type 0
Permits (any f) v = Unit {0}
Permits block v = is_block_type v ≡ true
Permits (lane n) v = v < n
Permits (exponent m) v = 2 ^ v ≤ m

-- it stands there, up to q, and nothing is wrong with it
pub record Right (s : List ℕ) (p : ℕ) (i : Part) (q : ℕ) : Type 0 where
  pub value : ℕ
  pub holds : ItemAt s p (form i) value q
  pub allowed : Permits i value

-- something is wrong with it: code and place, one constructor a line of the card
pub data Wrong (s : List ℕ) (p : ℕ) : Part → ℕ → ℕ → Type 0 where
  cut : {i : Part} → Stops s p (form i) → Wrong s p i SHORT (length s)
  no_block_type : {v q : ℕ} → ItemAt s p byte v q → is_block_type v ≡ false → Wrong s p block KIND p
  no_number : {i : Part} → Bad s p (form i) → Wrong s p i NUMBER p
  large_index : {n v q : ℕ} → ItemAt s p byte v q → n ≤ v → Wrong s p (lane n) LANE p
  large_exponent : {m v q : ℕ} → ItemAt s p (number false 32) v q → m < 2 ^ v → Wrong s p (exponent m) ALIGN p

-- ---- the items of the instruction at a place

-- its opcode stands there, up to q: a byte that is not FD; or FD and the number n
pub data Opcode (s : List ℕ) (at : ℕ) : ℕ → ℕ → ℕ → Type 0 where
  one_byte : {b q : ℕ} → ItemAt s at byte b q → (b ≡ PREFIX → ⊥) → Opcode s at b 0 q
  prefixed : {n p q : ℕ} → ItemAt s at byte PREFIX p → ItemAt s p (number false 32) n q → Opcode s at PREFIX n q

-- the immediates, by their class: m bytes are moved, a lane index chooses among n; each shuffle index by itself
abbrev pub parts : Immediates → ℕ → ℕ → List Part
parts nothing m n = []
parts index m n = any (number false 32) ∷ []
parts block_type m n = block ∷ []
parts word m n = any (number true 32) ∷ []
parts long m n = any (number true 64) ∷ []
parts memory m n = exponent m ∷ any (number false 32) ∷ []
parts memory_lane m n = exponent m ∷ any (number false 32) ∷ lane n ∷ []
parts lane_index m n = lane n ∷ []
parts sixteen_bytes m n = replicate 16 (any byte)
parts sixteen_lanes m n = replicate 16 (lane 32)

abbrev pub parts_of : Code → List Part
parts_of c = parts (immediates c) (moved_by (carried c)) (lanes_of (carried c))

-- of these from p on, all before q are right, and at q the part i is read
pub data Next (s : List ℕ) : List Part → ℕ → ℕ → Part → Type 0 where
  here : {i : Part} {is : List Part} {p : ℕ} → Next s (i ∷ is) p p i
  after : {i j : Part} {is : List Part} {p q r : ℕ} → Right s p i q → Next s is q r j → Next s (i ∷ is) p r j

-- of the instruction all before p is right, and at p the part i is read
pub data Reading (ver : ℕ) (s : List ℕ) (at : ℕ) : ℕ → Part → Type 0 where
  first : Reading ver s at at (any byte)
  after_prefix : {p : ℕ} → ItemAt s at byte PREFIX p → Reading ver s at p (any (number false 32))
  immediate : {b n p q : ℕ} {c : Code} {i : Part} → Opcode s at b n p → row_at ver b n ≡ carried c → Next s (parts_of c) p q i → Reading ver s at q i

-- ---- the instruction at a place, in a strip of this version, is refused with this code and place

pub data Refuses (ver : ℕ) (s : List ℕ) (at : ℕ) : ℕ → ℕ → Type 0 where
  item : {p code place : ℕ} {i : Part} → Reading ver s at p i → Wrong s p i code place → Refuses ver s at code place
  not_assigned : {b n p : ℕ} → Opcode s at b n p → row_at ver b n ≡ unassigned → Refuses ver s at OPCODE at
  a_float : {b n p : ℕ} → Opcode s at b n p → row_at ver b n ≡ float → Refuses ver s at FLOAT at

-- ---- what decoding one instruction answers: the one that stands there and its length, or its refusal

pub data Decodes (ver : ℕ) (s : List ℕ) (at : ℕ) : Decoded → Type 0 where
  whole : {i : Instr} {n : ℕ} → Stands ver s at i n → Decodes ver s at (found n i)
  refused : {code place : ℕ} → Refuses ver s at code place → Decodes ver s at (refusal code place)
