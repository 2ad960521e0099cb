-- Inner: scanning goes over what follows the opcode, as Decode has it, and keeps of it only an index or a block type.
use Rattle.std.specs.Prelude.{ℕ, Bool, true, false, cond, List}
use Rattle.card.specs.Card.{OPCODE, FLOAT}
use Rattle.opcode.specs.Table.{Row, carried, float, unassigned}
use Rattle.opcode.specs.Immediate.{Immediates, nothing, index, block_type, word, long, memory, memory_lane, lane_index, sixteen_bytes, sixteen_lanes, immediates, moved_by, lanes_of}
use Rattle.instr.specs.Decode.{Item, got, no, and_read, u32_at, s32_at, s64_at, lane_at, block_at, exponent_at, lanes_at, sixteen_at}

-- an item of which only the place after it is asked
abbrev pub over : Item → Item
over (got v next) = got 0 next
over (no c p) = no c p

-- with a lane index after the offset, or without
unfoldable pub over_memory : Bool → ℕ → ℕ → List ℕ → ℕ → Item
over_memory laned m n s p =
    and_read (exponent_at m s p) (λ a q.
    and_read (u32_at s q) (λ o r.
    cond laned (over (lane_at n s r)) (got 0 r)))

-- what follows the opcode from p on: m bytes are moved, a lane index chooses among n
unfoldable pub over_class : Immediates → ℕ → ℕ → List ℕ → ℕ → Item
over_class nothing m n s p = got 0 p
over_class index m n s p = u32_at s p
over_class block_type m n s p = block_at s p
over_class word m n s p = over (s32_at s p)
over_class long m n s p = over (s64_at s p)
over_class memory m n s p = over_memory false m n s p
over_class memory_lane m n s p = over_memory true m n s p
over_class lane_index m n s p = over (lane_at n s p)
over_class sixteen_bytes m n s p = over (sixteen_at s p)
over_class sixteen_lanes m n s p = over (lanes_at 16 s p)

unfoldable pub over_row : Row → List ℕ → ℕ → ℕ → Item
over_row (carried c) s at p = over_class (immediates c) (moved_by (carried c)) (lanes_of (carried c)) s p
over_row float s at p = no FLOAT at
over_row unassigned s at p = no OPCODE at
