-- What decoding one instruction answers (01, "Numbers on the inspector's card": 2 and 7 to 11, "Decoding one instruction from any
-- place"; 02, C-13: told the version, 4 first and 6 after 8): from left to right, each item judged as soon as it is read.
use Rattle.std.specs.Prelude.{ℕ, zero, suc, ◌+◌, ◌-◌, ◌^◌, Bool, true, false, cond, Result, Ok, Err, List, ltb, leb, eqb, length, get_or, take, drop}
use Rattle.card.specs.Card.{SHORT, VERSION, KIND, OPCODE, FLOAT, LANE, ALIGN}
use Rattle.leb128.specs.Answer.{told_read}
use Rattle.leb128.specs.Number.{number_of, number_at}
use Rattle.leb128.specs.declared.reading.Number.{Number}
use Rattle.leb128.specs.declared.reading.NoNumber.{NoNumber}
use Rattle.opcode.specs.BlockType.{is_block_type}
use Rattle.opcode.specs.Table.{Row, carried, float, unassigned, known, PREFIX, row_at}
use Rattle.opcode.specs.Immediate.{Immediates, nothing, index, block_type, word, long, memory, memory_lane, lane_index, sixteen_bytes, sixteen_lanes, immediates, moved_by, lanes_of}
use Rattle.instr.specs.Layout.{Head, head, zeros, instr, block_instr, found, refusal}
use Rattle.instr.specs.declared.Instr.{Instr}
use Rattle.instr.specs.declared.Decoded.{Decoded}

-- an instruction from at up to next
abbrev pub done : ℕ → ℕ → Instr → Decoded
done at next i = found (next - at) i

-- an item that was read: its value and the place after it; or a refusal's code and place
pub data Item : Type 0 where
  got : ℕ → ℕ → Item
  no : ℕ → ℕ → Item

-- then what follows it
abbrev pub and_then : Item → (ℕ → ℕ → Decoded) → Decoded
and_then (got v next) f = f v next
and_then (no c p) f = refusal c p

abbrev pub and_read : Item → (ℕ → ℕ → Item) → Item
and_read (got v next) f = f v next
and_read (no c p) f = no c p

-- a number, or its refusal as leb128 tells it
abbrev pub item_of : List ℕ → ℕ → Result Number NoNumber → Item
item_of s at (Ok m) = got m.value (at + m.len)
item_of s at (Err e) = no (told_read s at (Err e)).code (told_read s at (Err e)).place

unfoldable pub number_item : Bool → ℕ → List ℕ → ℕ → Item
number_item sign N s at = item_of s at (number_at sign N s at)

abbrev pub u32_at : List ℕ → ℕ → Item
u32_at = number_item false 32

abbrev pub s32_at : List ℕ → ℕ → Item
s32_at = number_item true 32

abbrev pub s64_at : List ℕ → ℕ → Item
s64_at = number_item true 64

unfoldable pub byte_at : List ℕ → ℕ → Item
byte_at s at = cond (ltb at (length s)) (got (get_or s at 0) (at + 1)) (no SHORT (length s))

-- an index below n; else LANE, at that byte
unfoldable pub lane_at : ℕ → List ℕ → ℕ → Item
lane_at n s at = and_read (byte_at s at) (λ b next. cond (ltb b n) (got b next) (no LANE at))

-- a block type; else KIND, at that byte
unfoldable pub block_at : List ℕ → ℕ → Item
block_at s at = and_read (byte_at s at) (λ b next. cond (is_block_type b) (got b next) (no KIND at))

-- an exponent for m bytes; else ALIGN, at its first byte
unfoldable pub exponent_at : ℕ → List ℕ → ℕ → Item
exponent_at m s at = and_read (u32_at s at) (λ a next. cond (leb (2 ^ a) m) (got a next) (no ALIGN at))

-- so many shuffle indices, each judged by itself
unfoldable pub lanes_at : ℕ → List ℕ → ℕ → Item
lanes_at zero s at = got 0 at
lanes_at (suc k) s at = and_read (lane_at 32 s at) (λ b next. lanes_at k s next)

unfoldable pub sixteen_at : List ℕ → ℕ → Item
sixteen_at s at = cond (leb (at + 16) (length s)) (got 0 (at + 16)) (no SHORT (length s))

-- the immediates of the instruction at a place, from p on: m bytes are moved, a lane index chooses among n
unfoldable pub immediates_at : Immediates → ℕ → ℕ → List ℕ → ℕ → ℕ → Head → Decoded
immediates_at nothing m n s at p h = done at p (instr h 0 0 0 0 0 0 zeros)
immediates_at index m n s at p h = and_then (u32_at s p) (λ v q. done at q (instr h v 0 0 0 0 0 zeros))
immediates_at block_type m n s at p h = and_then (block_at s p) (λ b q. done at q (block_instr h b))
immediates_at word m n s at p h = and_then (s32_at s p) (λ v q. done at q (instr h 0 v 0 0 0 0 zeros))
immediates_at long m n s at p h = and_then (s64_at s p) (λ v q. done at q (instr h 0 0 v 0 0 0 zeros))
immediates_at memory m n s at p h =
    and_then (exponent_at m s p) (λ a q.
    and_then (u32_at s q) (λ o r.
    done at r (instr h 0 0 0 a o 0 zeros)))
immediates_at memory_lane m n s at p h =
    and_then (exponent_at m s p) (λ a q.
    and_then (u32_at s q) (λ o r.
    and_then (lane_at n s r) (λ l t.
    done at t (instr h 0 0 0 a o l zeros))))
immediates_at lane_index m n s at p h = and_then (lane_at n s p) (λ l q. done at q (instr h 0 0 0 0 0 l zeros))
immediates_at sixteen_bytes m n s at p h = and_then (sixteen_at s p) (λ _ q. done at q (instr h 0 0 0 0 0 0 (take 16 (drop p s))))
immediates_at sixteen_lanes m n s at p h = and_then (lanes_at 16 s p) (λ _ q. done at q (instr h 0 0 0 0 0 0 (take 16 (drop p s))))

unfoldable pub body_of : Row → List ℕ → ℕ → ℕ → Head → Decoded
body_of (carried c) s at p h = immediates_at (immediates c) (moved_by (carried c)) (lanes_of (carried c)) s at p h
body_of float s at p h = refusal FLOAT at
body_of unassigned s at p h = refusal OPCODE at

-- FD's number; where the first byte is not FD nothing is read
unfoldable pub opcode_number : ℕ → List ℕ → ℕ → Result Number NoNumber
opcode_number first s p = cond (eqb first PREFIX) (number_at false 32 s p) (number_of 0 0)

-- in a strip of this version
unfoldable pub decode_at : ℕ → List ℕ → ℕ → Decoded
decode_at ver s at =
    and_then (byte_at s at) (λ b p.
    and_then (item_of s p (opcode_number b s p)) (λ n q.
    body_of (row_at ver b n) s at q (head b n)))

-- decoding one instruction, told the version: 4 is asked first
abbrev pub decode_in : ℕ → List ℕ → ℕ → Decoded
decode_in ver s at = cond (known ver) (decode_at ver s at) (refusal VERSION 3)
