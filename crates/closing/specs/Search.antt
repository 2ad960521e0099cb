-- Inner: what only contracts inside the project cite. The search for the `end` that closes a block, as it goes over bytes that were checked: past
-- each instruction by its opcode and the fields that the table gives it, whatever they hold, and into each block with room that falls (01, "matching
-- a block with its end recurses on the remaining bytes, with nesting room that falls"). It has one answer for any bytes; on a strip that passes this
-- is Closing's (proofs/Exact).
use Rattle.std.specs.Prelude.{ℕ, zero, suc, ◌+◌, ◌≤◌, ◌<◌, min, ◌≡◌, cond, Result, Ok, Err, List, [], ◌∷◌, ltb, length, get_or, drop}
use Rattle.leb128.specs.declared.reading.Number.{Number}
use Rattle.leb128.specs.declared.reading.NoNumber.{NoNumber}
use Rattle.opcode.specs.Table.{Row, carried, float, unassigned, latest, row_at}
use Rattle.opcode.specs.Immediate.{immediates}
use Rattle.opcode.specs.Number.{row_of}
use Rattle.instr.specs.declared.Instr.{Instr}
use Rattle.instr.specs.Layout.{Field, number, raw, immediate_fields, head, instr, zeros}
use Rattle.instr.specs.Decode.{opcode_number}
use Rattle.standard.specs.Closing.{Role, opener, closer, neither, role}

-- ---- past one instruction

-- a number ends at the first byte below 128
unfoldable pub number_long : List ℕ → ℕ
number_long [] = 0
number_long (b ∷ bs) = cond (ltb b 128) 1 (suc (number_long bs))

-- the first byte below 128
pub record Ends (bs : List ℕ) (last : ℕ) : Type 0 where
  pub inside : last < length bs
  pub here : get_or bs last 0 < 128
  pub first : (k : ℕ) → k < last → 128 ≤ get_or bs k 0

abbrev pub past_number : List ℕ → ℕ → ℕ
past_number s p = p + number_long (drop p s)

-- so many bytes on, but not past the last
abbrev pub past_bytes : List ℕ → ℕ → ℕ → ℕ
past_bytes s p n = min (p + n) (length s)

abbrev pub past_field : List ℕ → ℕ → Field → ℕ
past_field s p (number sign N v) = past_number s p
past_field s p (raw bs) = past_bytes s p (length bs)

abbrev pub past_fields : List ℕ → ℕ → List Field → ℕ
past_fields s p [] = p
past_fields s p (f ∷ fs) = past_fields s (past_field s p f) fs

-- which values the fields hold is not asked
abbrev pub blank : Instr
blank = instr (head 0 0) 0 0 0 0 0 0 zeros

-- past what is not carried nothing is looked for
abbrev pub past_row : Row → List ℕ → ℕ → ℕ
past_row (carried c) s p = past_fields s p (immediate_fields (immediates c) blank)
past_row float s p = length s
past_row unassigned s p = length s

-- what the table says of an instruction, and the place after it
pub record Passed : Type 0 where
  pub row : Row
  pub next : ℕ

abbrev pub passed : Row → ℕ → Passed
passed r q = record { row = r; next = q }

-- the opcode's first byte is b, and its number stands from q on, if it has one
abbrev pub passed_by : ℕ → List ℕ → ℕ → Result Number NoNumber → Passed
passed_by b s q (Ok m) = passed (row_at latest b m.value) (past_row (row_at latest b m.value) s (q + m.len))
passed_by b s q (Err _) = passed unassigned (length s)

unfoldable pub passed_at : List ℕ → ℕ → Passed
passed_at s p = passed_by (get_or s p 0) s (p + 1) (opcode_number (get_or s p 0) s (p + 1))

-- an opcode at the place, by its id and the place after it
pub record Named (s : List ℕ) (at id q : ℕ) : Type 0 where
  pub inside : q ≤ length s
  pub says : passed_at s at ≡ passed (row_of id) (past_row (row_of id) s q)

-- ---- to the `end`

abbrev pub role_of : Row → Role
role_of (carried c) = role c
role_of float = neither
role_of unassigned = neither

-- a block inside ends before m, or has no end: then this one has none
abbrev pub on_from : ℕ → ℕ → (ℕ → ℕ) → ℕ
on_from q m f = cond (ltb q m) (f m) 0

-- f room p: the place after the `end` that is looked for from p on
abbrev pub end_by : Role → ℕ → ℕ → (ℕ → ℕ → ℕ) → ℕ
end_by closer room q f = q
end_by neither room q f = f room q
end_by opener zero q f = 0
end_by opener (suc room) q f = on_from q (f room q) (f (suc room))

-- over so many instructions at most
unfoldable pub end_within : ℕ → List ℕ → ℕ → ℕ → ℕ
end_within zero s room p = 0
end_within (suc k) s room p = cond (ltb p (length s)) (end_by (role_of (passed_at s p).row) room (passed_at s p).next (end_within k s)) 0

-- the place after the `end` of the block whose body begins at p, with room for so many blocks one inside the other; 0 where there is none
abbrev pub end_of : List ℕ → ℕ → ℕ → ℕ
end_of s room p = end_within (length s) s room p
