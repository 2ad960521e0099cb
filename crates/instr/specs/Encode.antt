-- What encoding one instruction answers and writes (01, "Encoding one reads only the immediates that instruction has"; 02, C-13: told the version, 4
-- first and 6 after 8).
use Rattle.std.specs.Prelude.{ℕ, ◌^◌, Bool, true, cond, ◌&&◌, List, [], ◌∷◌, ◌++◌, ltb, leb, eqb, length, drop}
use Rattle.card.specs.Card.{DONE, VERSION, KIND, OPCODE, FLOAT, LANE, ALIGN, SMALL}
use Rattle.leb128.specs.Shortest.{bytes_of}
use Rattle.opcode.specs.BlockType.{is_block_type}
use Rattle.opcode.specs.Table.{Row, carried, float, unassigned, latest}
use Rattle.opcode.specs.Immediate.{Immediates, nothing, index, block_type, word, long, memory, memory_lane, lane_index, sixteen_bytes, sixteen_lanes, immediates, moved_by, lanes_of}
use Rattle.instr.specs.Layout.{Field, number, raw, row_in, layout}
use Rattle.opcode.specs.Table.{known}
use Rattle.instr.specs.declared.Instr.{Instr}
use Rattle.instr.specs.declared.Encoded.{Encoded}

-- a field in its shortest form
abbrev pub shortest_bytes : Field → List ℕ
shortest_bytes (number sign N v) = bytes_of sign N v
shortest_bytes (raw xs) = xs

abbrev pub written : List Field → List ℕ
written [] = []
written (f ∷ fs) = shortest_bytes f ++ written fs

-- the same in every version that has it
unfoldable pub encoding : Instr → List ℕ
encoding i = written (layout latest i)

unfoldable pub all_below : ℕ → List ℕ → Bool
all_below n [] = true
all_below n (x ∷ xs) = ltb x n && all_below n xs

-- LANE before ALIGN: m bytes are moved, a lane index chooses among n
abbrev pub exponent_fault : ℕ → ℕ → ℕ
exponent_fault m a = cond (leb (2 ^ a) m) DONE ALIGN

unfoldable pub fault_in : Immediates → ℕ → ℕ → Instr → ℕ
fault_in nothing m n i = DONE
fault_in index m n i = DONE
fault_in block_type m n i = cond (is_block_type i.block) DONE KIND
fault_in word m n i = DONE
fault_in long m n i = DONE
fault_in memory m n i = exponent_fault m i.align
fault_in memory_lane m n i = cond (ltb i.lane n) (exponent_fault m i.align) LANE
fault_in lane_index m n i = cond (ltb i.lane n) DONE LANE
fault_in sixteen_bytes m n i = DONE
fault_in sixteen_lanes m n i = cond (all_below 32 i.bytes) DONE LANE

-- 7, 8, 6, 10 and 11; DONE where nothing is wrong
unfoldable pub fault_of : Row → Instr → ℕ
fault_of (carried c) i = fault_in (immediates c) (moved_by (carried c)) (lanes_of (carried c)) i
fault_of float i = FLOAT
fault_of unassigned i = OPCODE

-- 4 before them
abbrev pub fault : ℕ → Instr → ℕ
fault ver i = cond (known ver) (fault_of (row_in ver i) i) VERSION

abbrev pub answer : ℕ → ℕ → Encoded
answer c n = record { code = c; place = 0; len = n }

-- SMALL after the others
unfoldable pub encoded : ℕ → Instr → List ℕ → Encoded
encoded ver i out =
    cond (eqb (fault ver i) DONE)
    (cond (leb (length (encoding i)) (length out)) (answer DONE (length (encoding i))) (answer SMALL 0))
    (answer (fault ver i) 0)

-- the buffer afterwards: a refusal changes nothing
unfoldable pub encoded_in : ℕ → Instr → List ℕ → List ℕ
encoded_in ver i out =
    cond (eqb (fault ver i) DONE && leb (length (encoding i)) (length out))
    (encoding i ++ drop (length (encoding i)) out)
    out
