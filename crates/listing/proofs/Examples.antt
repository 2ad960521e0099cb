-- Worked lines: C-11's own, kinds bottom first, a signed constant, a lane after the offset; C-13's blocks, branches and dead code; and places aside.
use mathlib.Core.Path.{◌≡◌, refl}
use mathlib.Core.Bool.{false}
use mathlib.Core.List.{[], ◌∷◌, ◌++◌}
use Rattle.text.specs.Decimal.{leading, decimal, spelled}
use Rattle.text.specs.Words.{joined, newline}
use Rattle.opcode.specs.Ascii.{ascii}
use Rattle.opcode.specs.Kind.{i32, i64, v128}
use Rattle.opcode.specs.Table.{plain_at, plain_name, vectors, vector_at, vector_name}
use Rattle.instr.specs.Layout.{immediate_fields, fields_of, head, instr, block_instr, zeros}
use Rattle.rules.specs.Typing.{Frame, holding, deadened, all_values}
use Rattle.listing.specs.Line.{bracketed, immediates, line}
use Rattle.listing.specs.Aside.{places_aside}

pub whole : line 27 (v128 ∷ []) (instr (head 0x0B 0) 0 0 0 0 0 0 zeros) ≡ ascii "27 [v128] end" ++ newline ∷ []
unfolding leading decimal spelled joined plain_at plain_name vectors vector_at vector_name immediate_fields fields_of bracketed immediates line
whole = refl

pub lowest : line 9 [] (instr (head 0x41 0) 0 2147483648 0 0 0 0 zeros) ≡ ascii "9 [] i32.const -2147483648" ++ newline ∷ []
unfolding leading decimal spelled joined plain_at plain_name vectors vector_at vector_name immediate_fields fields_of bracketed immediates line
lowest = refl

pub lane : line 120 (i32 ∷ v128 ∷ []) (instr (head 0xFD 0x58) 0 0 0 0 1000 15 zeros) ≡ ascii "120 [i32 v128] v128.store8_lane 0 1000 15" ++ newline ∷ []
unfolding leading decimal spelled joined plain_at plain_name vectors vector_at vector_name immediate_fields fields_of bracketed immediates line
lane = refl

-- ---- blocks: a type is its byte, a label a number

pub empty_block : line 8 [] (block_instr (head 0x02 0) 0x40) ≡ ascii "8 [] block 64" ++ newline ∷ []
unfolding leading decimal spelled joined plain_at plain_name vectors vector_at vector_name immediate_fields fields_of bracketed immediates line
empty_block = refl

pub loop-result : line 10 (i32 ∷ []) (block_instr (head 0x03 0) 0x7F) ≡ ascii "10 [i32] loop 127" ++ newline ∷ []
unfolding leading decimal spelled joined plain_at plain_name vectors vector_at vector_name immediate_fields fields_of bracketed immediates line
loop-result = refl

pub innermost : line 14 [] (instr (head 0x0C 0) 0 0 0 0 0 0 zeros) ≡ ascii "14 [] br 0" ++ newline ∷ []
unfolding leading decimal spelled joined plain_at plain_name vectors vector_at vector_name immediate_fields fields_of bracketed immediates line
innermost = refl

pub next-outer : line 300 (i64 ∷ i32 ∷ []) (instr (head 0x0D 0) 1 0 0 0 0 0 zeros) ≡ ascii "300 [i64 i32] br_if 1" ++ newline ∷ []
unfolding leading decimal spelled joined plain_at plain_name vectors vector_at vector_name immediate_fields fields_of bracketed immediates line
next-outer = refl

pub farthest : line 16 (i32 ∷ []) (instr (head 0x0D 0) 4294967295 0 0 0 0 0 zeros) ≡ ascii "16 [i32] br_if 4294967295" ++ newline ∷ []
unfolding leading decimal spelled joined plain_at plain_name vectors vector_at vector_name immediate_fields fields_of bracketed immediates line
farthest = refl

-- a block that leaves an i32, in a strip with a v128 on its stack
abbrev around : Frame
around = record { loop = false; results = v128 ∷ []; values = v128 ∷ []; dead = false }

abbrev inside : Frame
inside = record { loop = false; results = i32 ∷ []; values = i64 ∷ i32 ∷ []; dead = false }

-- under the block too; after a `br` in it no value of its own is known, and then those that dead code leaves are
pub both : line 17 (all_values (inside ∷ around ∷ [])) (instr (head 0x0C 0) 0 0 0 0 0 0 zeros) ≡ ascii "17 [v128 i64 i32] br 0" ++ newline ∷ []
unfolding leading decimal spelled joined plain_at plain_name vectors vector_at vector_name immediate_fields fields_of bracketed immediates line
both = refl

pub dead_end : line 19 (all_values (deadened inside ∷ around ∷ [])) (instr (head 0x0B 0) 0 0 0 0 0 0 zeros) ≡ ascii "19 [v128] end" ++ newline ∷ []
unfolding leading decimal spelled joined plain_at plain_name vectors vector_at vector_name immediate_fields fields_of bracketed immediates line
dead_end = refl

pub dead-known : line 21 (all_values (holding (deadened inside) (i32 ∷ []) ∷ around ∷ [])) (instr (head 0x0B 0) 0 0 0 0 0 0 zeros)
    ≡ ascii "21 [v128 i32] end" ++ newline ∷ []
unfolding leading decimal spelled joined plain_at plain_name vectors vector_at vector_name immediate_fields fields_of bracketed immediates line
dead-known = refl

-- ---- places aside

pub aside : places_aside (ascii "9 [] i32.const -1" ++ newline ∷ (ascii "27 [i32 v128] end" ++ newline ∷ []))
    ≡ ascii "[] i32.const -1" ++ newline ∷ (ascii "[i32 v128] end" ++ newline ∷ [])
unfolding places_aside
aside = refl
