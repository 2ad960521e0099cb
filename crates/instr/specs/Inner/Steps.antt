-- Inner: what the steps of decoding and encoding leave.
use Rattle.std.specs.Prelude.{ℕ, ◌+◌, ◌-◌, ◌<◌, ◌≤◌, ◌^◌, Bool, true, false, cond, ltb, List, Result, Ok, Err, ◌⊎◌, ◌≡◌, length, get_or}
use Rattle.std.proofs.lemmas.List.Edits.{sets}
use Rattle.card.specs.Card.{DONE, LANE}
use Rattle.opcode.specs.Table.{Row, known, row_at}
use Rattle.opcode.specs.Entry.{entry_of}
use Rattle.opcode.specs.Immediate.{Immediates, memory, memory_lane}
use Rattle.instr.specs.Layout.{Head, head, zeros, instr, refusal}
use Rattle.instr.specs.Decode.{Item, got, no, and_then, done, lane_at, lanes_at, body_of, decode_in}
use Rattle.instr.specs.declared.Decoded.{Decoded}
use Rattle.instr.specs.Encode.{answer}
use Rattle.instr.specs.Fetch.{fetch_of}
use Rattle.instr.specs.Scan.{scan_of}
use Rattle.instr.specs.declared.Instr.{Instr}
use Rattle.instr.specs.declared.Encoded.{Encoded}
use Rattle.instr.specs.declared.Fetched.{Fetched}
use Rattle.instr.specs.declared.Scanned.{Scanned}
use Rattle.instr.specs.declared.decoding.Opcode.{Opcode}
use Rattle.instr.specs.declared.Refusal.{Refusal}
use Rattle.instr.specs.declared.reading.Got.{Got}
use Rattle.instr.specs.declared.immediates.Whole.{Whole}

-- the code's answer as an item: a number; one byte; sixteen bytes, of which only the place after them is told
abbrev pub item : Result Got Refusal → Item
item (Ok g) = got g.value g.next
item (Err r) = no r.code r.place

abbrev pub one_item : ℕ → Result ℕ Refusal → Item
one_item p (Ok b) = got b (p + 1)
one_item p (Err r) = no r.code r.place

abbrev pub next_item : Result ℕ Refusal → Item
next_item (Ok next) = got 0 next
next_item (Err r) = no r.code r.place

-- the code's answer of the instruction at a place, as decoding tells it
abbrev pub told : ℕ → Result Whole Refusal → Decoded
told at (Ok w) = done at w.next w.instr
told at (Err r) = refusal r.code r.place

-- and as fetching and scanning tell it
abbrev pub fetch_answer : Result Fetched Refusal → Fetched
fetch_answer (Ok f) = f
fetch_answer (Err r) = fetch_of (refusal r.code r.place)

abbrev pub scan_answer : Result Scanned Refusal → Scanned
scan_answer (Ok i) = i
scan_answer (Err r) = scan_of (refusal r.code r.place)

-- an opcode was read at a place, and the rest of the instruction follows it
pub record OpcodeAt (ver : ℕ) (s : List ℕ) (at : ℕ) (code : Opcode) : Type 0 where
  pub version : known ver ≡ true
  pub first : code.first < 2 ^ 8
  pub onward : at < code.next
  pub inside : code.next ≤ length s
  pub rest : decode_in ver s at ≡ body_of (row_at ver code.first code.number) s at code.next (head code.first code.number)

-- so far an instruction has its opcode and no immediates
abbrev pub bare_of : Head → Instr
bare_of h = instr h 0 0 0 0 0 0 zeros

-- with a lane index after the offset, or without
abbrev pub memory_class : Bool → Immediates
memory_class false = memory
memory_class true = memory_lane

-- the lane index with which an instruction ends
unfoldable pub lane_ends : ℕ → List ℕ → ℕ → ℕ → Instr → Decoded
lane_ends n s p at i = and_then (lane_at n s p) (λ l q. done at q (record i { lane = l }))

-- k of sixteen shuffle indices are good, and the next one, if k is not sixteen, is not
pub record GoodUpTo (s : List ℕ) (at k : ℕ) : Type 0 where
  pub most : k ≤ 16
  pub inside : at + k ≤ length s
  pub same : lanes_at 16 s at ≡ lanes_at (16 - k) s (at + k)
  pub stops : k < 16 → (length s ≤ at + k) ⊎ (32 ≤ get_or s (at + k) 0)

-- what is wrong with an instruction, and what encoding one answers, by the card's code
abbrev pub fault_answer : Result (Unit {0}) ℕ → ℕ
fault_answer (Ok _) = DONE
fault_answer (Err code) = code

abbrev pub encode_answer : Result ℕ ℕ → Encoded
encode_answer (Ok len) = answer DONE len
encode_answer (Err code) = answer code 0

abbrev pub lane_fault : ℕ → ℕ → ℕ
lane_fault n lane = cond (ltb lane n) DONE LANE

-- bs written from a place on, r the place after them
pub record Put (out : List ℕ) (at : ℕ) (bs : List ℕ) (r : ℕ) (out' : List ℕ) : Type 0 where
  pub to : r ≡ at + length bs
  pub bytes : out' ≡ sets out at bs

-- e is the entry of what the table has of an instruction in this version
pub record Tabled (ver first n e : ℕ) : Type 0 where
  pub row : Row
  pub entry : e ≡ entry_of row
  pub in_version : row ≡ row_at ver first n
