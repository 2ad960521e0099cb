-- The bytes of one instruction (01, "Instructions"; Core 2.0, 5.4): its fields in order, the same for decoding and for encoding.
use Rattle.std.specs.Prelude.{ℕ, ◌<◌, ◌≤◌, ◌^◌, Bool, true, false, cond, List, [], ◌∷◌, ◌++◌, ◌≡◌, eqb, length, drop, replicate}
use Rattle.card.specs.Card.{DONE}
use Rattle.leb128.specs.Grammar.{Written}
use Rattle.leb128.specs.Bits.{integer}
use Rattle.opcode.specs.BlockType.{is_block_type}
use Rattle.opcode.specs.Table.{Row, carried, float, unassigned, PREFIX, row_at}
use Rattle.opcode.specs.Immediate.{Immediates, nothing, index, block_type, word, long, memory, memory_lane, lane_index, sixteen_bytes, sixteen_lanes, immediates, moved_by, lanes_of}
use Rattle.instr.specs.declared.Instr.{Instr}
use Rattle.instr.specs.declared.Decoded.{Decoded}

-- a number of N bits, signed or not, given by its bits; or bytes as they are
pub data Field : Type 0 where
  number : Bool → ℕ → ℕ → Field
  raw : List ℕ → Field

abbrev pub u32 : ℕ → Field
u32 v = number false 32 v

abbrev pub s32 : ℕ → Field
s32 v = number true 32 v

abbrev pub s64 : ℕ → Field
s64 v = number true 64 v

-- these bytes are the field
abbrev pub Writes : Field → List ℕ → Type 0
Writes (number sign N v) bs = Written sign N bs (integer sign N v)
Writes (raw xs) bs = bs ≡ xs

-- and no fewer bytes are
abbrev pub Shortest : Field → List ℕ → Type 0
Shortest f bs = Writes f bs × ((cs : List ℕ) → Writes f cs → length bs ≤ length cs)

-- one field after the other
abbrev pub InOrder : (Field → List ℕ → Type 0) → List Field → List ℕ → Type 0
InOrder R [] bs = bs ≡ []
InOrder R (f ∷ fs) bs = (xs : List ℕ) × (ys : List ℕ) × (bs ≡ xs ++ ys) × R f xs × InOrder R fs ys

abbrev pub opcode_fields : ℕ → ℕ → List Field
opcode_fields first n = raw (first ∷ []) ∷ cond (eqb first PREFIX) (u32 n ∷ []) []

-- the immediates, by their class
unfoldable pub immediate_fields : Immediates → Instr → List Field
immediate_fields nothing i = []
immediate_fields index i = u32 i.index ∷ []
immediate_fields block_type i = raw (i.block ∷ []) ∷ []
immediate_fields word i = s32 i.word ∷ []
immediate_fields long i = s64 i.long ∷ []
immediate_fields memory i = u32 i.align ∷ u32 i.offset ∷ []
immediate_fields memory_lane i = u32 i.align ∷ u32 i.offset ∷ raw (i.lane ∷ []) ∷ []
immediate_fields lane_index i = raw (i.lane ∷ []) ∷ []
immediate_fields sixteen_bytes i = raw i.bytes ∷ []
immediate_fields sixteen_lanes i = raw i.bytes ∷ []

unfoldable pub fields_of : Row → Instr → List Field
fields_of (carried c) i = immediate_fields (immediates c) i
fields_of float i = []
fields_of unassigned i = []

-- what the table says of an instruction, in a strip of this version
abbrev pub row_in : ℕ → Instr → Row
row_in ver i = row_at ver i.first i.number

unfoldable pub layout : ℕ → Instr → List Field
layout ver i = opcode_fields i.first i.number ++ fields_of (row_in ver i) i

-- every one of them is below n
abbrev pub Below : ℕ → List ℕ → Type 0
Below n [] = Unit {0}
Below n (x ∷ xs) = (x < n) × Below n xs

-- block type, lanes and exponent are allowed: m bytes are moved, a lane index chooses among n
unfoldable pub AllowedIn : Immediates → ℕ → ℕ → Instr → Type 0
AllowedIn nothing m n i = Unit {0}
AllowedIn index m n i = Unit {0}
AllowedIn block_type m n i = is_block_type i.block ≡ true
AllowedIn word m n i = Unit {0}
AllowedIn long m n i = Unit {0}
AllowedIn memory m n i = 2 ^ i.align ≤ m
AllowedIn memory_lane m n i = (2 ^ i.align ≤ m) × (i.lane < n)
AllowedIn lane_index m n i = i.lane < n
AllowedIn sixteen_bytes m n i = Unit {0}
AllowedIn sixteen_lanes m n i = Below 32 i.bytes

unfoldable pub Allowed : Row → Instr → Type 0
Allowed (carried c) i = AllowedIn (immediates c) (moved_by (carried c)) (lanes_of (carried c)) i
Allowed float i = ⊥
Allowed unassigned i = ⊥

-- an opcode's two numbers; the second is 0 where the first is not FD
pub record Head : Type 0 where
  pub first : ℕ
  pub number : ℕ

abbrev pub head : ℕ → ℕ → Head
head b n = record { first = b; number = n }

abbrev pub zeros : List ℕ
zeros = replicate 16 0

-- with these immediates
abbrev pub made : Head → ℕ → ℕ → ℕ → ℕ → ℕ → ℕ → ℕ → List ℕ → Instr
made h x w v a o l b bs =
    record {
      first = h.first;
      number = h.number;
      index = x;
      word = w;
      long = v;
      align = a;
      offset = o;
      lane = l;
      block = b;
      bytes = bs;
    }

-- one without a block type, and one with nothing else
abbrev pub instr : Head → ℕ → ℕ → ℕ → ℕ → ℕ → ℕ → List ℕ → Instr
instr h x w v a o l bs = made h x w v a o l 0 bs

abbrev pub block_instr : Head → ℕ → Instr
block_instr h b = made h 0 0 0 0 0 0 b zeros

-- the instruction with the immediates that it lacks as zero
abbrev pub kept : Immediates → Head → Instr → Instr
kept nothing h i = instr h 0 0 0 0 0 0 zeros
kept index h i = instr h i.index 0 0 0 0 0 zeros
kept block_type h i = block_instr h i.block
kept word h i = instr h 0 i.word 0 0 0 0 zeros
kept long h i = instr h 0 0 i.long 0 0 0 zeros
kept memory h i = instr h 0 0 0 i.align i.offset 0 zeros
kept memory_lane h i = instr h 0 0 0 i.align i.offset i.lane zeros
kept lane_index h i = instr h 0 0 0 0 0 i.lane zeros
kept sixteen_bytes h i = instr h 0 0 0 0 0 0 i.bytes
kept sixteen_lanes h i = instr h 0 0 0 0 0 0 i.bytes

unfoldable pub kept_of : Row → Head → Instr → Instr
kept_of (carried c) h i = kept (immediates c) h i
kept_of float h i = instr h 0 0 0 0 0 0 zeros
kept_of unassigned h i = instr h 0 0 0 0 0 0 zeros

abbrev pub head_of : Instr → Head
head_of i = head i.first (cond (eqb i.first PREFIX) i.number 0)

abbrev pub bare : ℕ → Instr → Instr
bare ver i = kept_of (row_in ver i) (head_of i) i

-- the fields are of their types, as those of every value that the program holds
pub record Typed (i : Instr) : Type 0 where
  pub first : i.first < 2 ^ 8
  pub number : i.number < 2 ^ 32
  pub index : i.index < 2 ^ 32
  pub word : i.word < 2 ^ 32
  pub long : i.long < 2 ^ 64
  pub align : i.align < 2 ^ 32
  pub offset : i.offset < 2 ^ 32
  pub lane : i.lane < 2 ^ 8
  pub block : i.block < 2 ^ 8
  pub sixteen : length i.bytes ≡ 16
  pub bytes : Below (2 ^ 8) i.bytes

-- at this place of s, a strip of this version, stands the instruction i, n bytes long
pub record Stands (ver : ℕ) (s : List ℕ) (at : ℕ) (i : Instr) (n : ℕ) : Type 0 where
  pub typed : Typed i
  pub allowed : Allowed (row_in ver i) i
  pub lacking : bare ver i ≡ i
  pub bytes : List ℕ
  pub rest : List ℕ
  pub here : drop at s ≡ bytes ++ rest
  pub long : length bytes ≡ n
  pub fields : InOrder Writes (layout ver i) bytes

-- the answer that it does
abbrev pub found : ℕ → Instr → Decoded
found n i = record { code = DONE; place = 0; len = n; instr = i }

-- a refusal: all but code and place zero
abbrev pub refusal : ℕ → ℕ → Decoded
refusal c p = record { code = c; place = p; len = 0; instr = instr (head 0 0) 0 0 0 0 0 0 zeros }
