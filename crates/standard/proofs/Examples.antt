-- The standard's machine at work, computed: a loop that adds 3, 2 and 1, left by a branch over its block; and what stands in the way of a branch.
use Prim.Native.Nat.{ℕ, zero, suc, ◌+◌}
use mathlib.Core.Path.{◌≡◌, refl}
use mathlib.Core.Bool.{Bool, true, false, ◌&&◌}
use mathlib.Core.List.{List, [], ◌∷◌, ◌++◌}
use mathlib.Core.Option.{some}
use lib.Dec.{T, ltb, ltb→lt, lit<, lit≤}
use lib.ListN.{drop}
use mir.Facts.{and_yes}
use Rattle.card.specs.Card.{DONE}
use Rattle.scalar.specs.Scalar.{isub}
use Rattle.leb128.specs.Bytes.{bytes}
use Rattle.leb128.specs.Number.{last_of, before, int_of, number_at}
use Rattle.opcode.specs.Kind.{Kind, i32}
use Rattle.opcode.specs.Table.{Code, carried, plain_at}
use Rattle.instr.specs.Layout.{row_in}
use Rattle.instr.proofs.Stands.{decoded-stands}
use Rattle.instr.specs.Decode.{number_item, byte_at, block_at, immediates_at, body_of, opcode_number, decode_at}
use Rattle.machine.specs.Value.{I32}
use Rattle.machine.specs.Exec.{pop_i32, pop_any, go_on, local, alike, of_kinds}
use Rattle.rules.specs.Header.{Header, header_bytes, locals}
use Rattle.rules.specs.Typing.{Frame, opened, holding, deadened, innermost, outer, first, later, by_signature, got, set, all_known, Types, ordinary, branches, may_branch, opens_block, opens_loop, closes, ends}
use Rattle.rules.specs.Strip.{Within, Reaches, front, past, Valid}
use Rattle.standard.specs.Closing.{close_within, close}
use Rattle.standard.specs.Standard.{ended, halted, step, runs, begin}

-- two further locals and one result, all i32
abbrev h : Header
h = record { version = 2; parameters = []; further = i32 ∷ i32 ∷ []; results = i32 ∷ [] }

abbrev sum : List ℕ
sum =
    header_bytes h
    ++ 0x41 ∷ 0x03 ∷ 0x21 ∷ 0x00  -- i32.const 3, local.set 0
    ∷ 0x02 ∷ 0x40 ∷ 0x03 ∷ 0x40  -- block, loop
    ∷ 0x20 ∷ 0x00 ∷ 0x45 ∷ 0x0D ∷ 0x01  -- local.get 0, i32.eqz, br_if 1
    ∷ 0x20 ∷ 0x01 ∷ 0x20 ∷ 0x00 ∷ 0x6A ∷ 0x21 ∷ 0x01  -- local.get 1, local.get 0, i32.add, local.set 1
    ∷ 0x20 ∷ 0x00 ∷ 0x41 ∷ 0x01 ∷ 0x6B ∷ 0x21 ∷ 0x00  -- local.get 0, i32.const 1, i32.sub, local.set 0
    ∷ 0x0C ∷ 0x00 ∷ 0x0B ∷ 0x0B  -- br 0, end, end
    ∷ 0x20 ∷ 0x01 ∷ 0x0B ∷ []  -- local.get 1, end

-- ---- the rules accept it

abbrev small : List ℕ → Bool
small [] = true
small (b ∷ bs) = ltb b 256 && small bs

are-bytes : (s : List ℕ) → T (small s) → bytes s
are-bytes [] h i = lit< tt
are-bytes (b ∷ bs) h zero = ltb→lt b 256 (and_yes (ltb b 256) (small bs) h).0
are-bytes (b ∷ bs) h (suc i) = are-bytes bs (and_yes (ltb b 256) (small bs) h).1 i

abbrev S : List Kind → Frame
S ks = holding (opened false (i32 ∷ [])) ks

abbrev B : List Kind → Frame
B ks = holding (opened false []) ks

abbrev L : List Kind → Frame
L ks = holding (opened true []) ks

next : {p : ℕ} {fs fs' : List Frame} {c : Code} → Reaches sum h p fs → (decode_at 2 sum p).code ≡ DONE → row_in 2 (decode_at 2 sum p).instr ≡ carried c
    → Types (locals h) (decode_at 2 sum p).instr c fs fs' → Within fs' → Reaches sum h (p + (decode_at 2 sum p).len) fs'
next {p} reached done does t w = past reached (record { stands = decoded-stands sum (are-bytes sum tt) 2 p done; does = does }) t w

r0 : Reaches sum h 11 (S [] ∷ [])
r0 = front (record { sized = lit≤ tt; versioned = refl; few = record { parameters = lit≤ tt; further = lit≤ tt; results = lit≤ tt }; body = drop 11 sum; bytes = refl })

r1 : Reaches sum h 13 (S (i32 ∷ []) ∷ [])
unfolding number_item byte_at block_at immediates_at body_of opcode_number decode_at plain_at last_of before int_of number_at
r1 = next {p = 11} r0 refl refl (ordinary {below = []} (by_signature refl) (all_known refl)) (record { blocks = lit≤ tt; values = lit≤ tt })

r2 : Reaches sum h 15 (S [] ∷ [])
unfolding number_item byte_at block_at immediates_at body_of opcode_number decode_at plain_at last_of before int_of number_at
r2 = next {p = 13} r1 refl refl (ordinary {below = []} (set first) (all_known refl)) (record { blocks = lit≤ tt; values = lit≤ tt })

r3 : Reaches sum h 17 (B [] ∷ S [] ∷ [])
unfolding number_item byte_at block_at immediates_at body_of opcode_number decode_at plain_at last_of before int_of number_at
r3 = next {p = 15} r2 refl refl (opens_block) (record { blocks = lit≤ tt; values = lit≤ tt })

r4 : Reaches sum h 19 (L [] ∷ B [] ∷ S [] ∷ [])
unfolding number_item byte_at block_at immediates_at body_of opcode_number decode_at plain_at last_of before int_of number_at
r4 = next {p = 17} r3 refl refl (opens_loop) (record { blocks = lit≤ tt; values = lit≤ tt })

r5 : Reaches sum h 21 (L (i32 ∷ []) ∷ B [] ∷ S [] ∷ [])
unfolding number_item byte_at block_at immediates_at body_of opcode_number decode_at plain_at last_of before int_of number_at
r5 = next {p = 19} r4 refl refl (ordinary {below = []} (got first) (all_known refl)) (record { blocks = lit≤ tt; values = lit≤ tt })

r6 : Reaches sum h 22 (L (i32 ∷ []) ∷ B [] ∷ S [] ∷ [])
unfolding number_item byte_at block_at immediates_at body_of opcode_number decode_at plain_at last_of before int_of number_at
r6 = next {p = 21} r5 refl refl (ordinary {below = []} (by_signature refl) (all_known refl)) (record { blocks = lit≤ tt; values = lit≤ tt })

r7 : Reaches sum h 24 (L [] ∷ B [] ∷ S [] ∷ [])
unfolding number_item byte_at block_at immediates_at body_of opcode_number decode_at plain_at last_of before int_of number_at
r7 = next {p = 22} r6 refl refl (may_branch {below = []} {f = L (i32 ∷ [])} {g = B []} (outer innermost) (all_known refl)) (record { blocks = lit≤ tt; values = lit≤ tt })

r8 : Reaches sum h 26 (L (i32 ∷ []) ∷ B [] ∷ S [] ∷ [])
unfolding number_item byte_at block_at immediates_at body_of opcode_number decode_at plain_at last_of before int_of number_at
r8 = next {p = 24} r7 refl refl (ordinary {below = []} (got (later first)) (all_known refl)) (record { blocks = lit≤ tt; values = lit≤ tt })

r9 : Reaches sum h 28 (L (i32 ∷ i32 ∷ []) ∷ B [] ∷ S [] ∷ [])
unfolding number_item byte_at block_at immediates_at body_of opcode_number decode_at plain_at last_of before int_of number_at
r9 = next {p = 26} r8 refl refl (ordinary {below = i32 ∷ []} (got first) (all_known refl)) (record { blocks = lit≤ tt; values = lit≤ tt })

r10 : Reaches sum h 29 (L (i32 ∷ []) ∷ B [] ∷ S [] ∷ [])
unfolding number_item byte_at block_at immediates_at body_of opcode_number decode_at plain_at last_of before int_of number_at
r10 = next {p = 28} r9 refl refl (ordinary {below = []} (by_signature refl) (all_known refl)) (record { blocks = lit≤ tt; values = lit≤ tt })

r11 : Reaches sum h 31 (L [] ∷ B [] ∷ S [] ∷ [])
unfolding number_item byte_at block_at immediates_at body_of opcode_number decode_at plain_at last_of before int_of number_at
r11 = next {p = 29} r10 refl refl (ordinary {below = []} (set (later first)) (all_known refl)) (record { blocks = lit≤ tt; values = lit≤ tt })

r12 : Reaches sum h 33 (L (i32 ∷ []) ∷ B [] ∷ S [] ∷ [])
unfolding number_item byte_at block_at immediates_at body_of opcode_number decode_at plain_at last_of before int_of number_at
r12 = next {p = 31} r11 refl refl (ordinary {below = []} (got first) (all_known refl)) (record { blocks = lit≤ tt; values = lit≤ tt })

r13 : Reaches sum h 35 (L (i32 ∷ i32 ∷ []) ∷ B [] ∷ S [] ∷ [])
unfolding number_item byte_at block_at immediates_at body_of opcode_number decode_at plain_at last_of before int_of number_at
r13 = next {p = 33} r12 refl refl (ordinary {below = i32 ∷ []} (by_signature refl) (all_known refl)) (record { blocks = lit≤ tt; values = lit≤ tt })

r14 : Reaches sum h 36 (L (i32 ∷ []) ∷ B [] ∷ S [] ∷ [])
unfolding number_item byte_at block_at immediates_at body_of opcode_number decode_at plain_at last_of before int_of number_at
r14 = next {p = 35} r13 refl refl (ordinary {below = []} (by_signature refl) (all_known refl)) (record { blocks = lit≤ tt; values = lit≤ tt })

r15 : Reaches sum h 38 (L [] ∷ B [] ∷ S [] ∷ [])
unfolding number_item byte_at block_at immediates_at body_of opcode_number decode_at plain_at last_of before int_of number_at
r15 = next {p = 36} r14 refl refl (ordinary {below = []} (set first) (all_known refl)) (record { blocks = lit≤ tt; values = lit≤ tt })

r16 : Reaches sum h 40 (deadened (L []) ∷ B [] ∷ S [] ∷ [])
unfolding number_item byte_at block_at immediates_at body_of opcode_number decode_at plain_at last_of before int_of number_at
r16 = next {p = 38} r15 refl refl (branches {below = []} {f = L []} {g = L []} innermost (all_known refl)) (record { blocks = lit≤ tt; values = lit≤ tt })

r17 : Reaches sum h 41 (B [] ∷ S [] ∷ [])
unfolding number_item byte_at block_at immediates_at body_of opcode_number decode_at plain_at last_of before int_of number_at
r17 = next {p = 40} r16 refl refl (closes (ends (all_known refl))) (record { blocks = lit≤ tt; values = lit≤ tt })

r18 : Reaches sum h 42 (S [] ∷ [])
unfolding number_item byte_at block_at immediates_at body_of opcode_number decode_at plain_at last_of before int_of number_at
r18 = next {p = 41} r17 refl refl (closes (ends (all_known refl))) (record { blocks = lit≤ tt; values = lit≤ tt })

r19 : Reaches sum h 44 (S (i32 ∷ []) ∷ [])
unfolding number_item byte_at block_at immediates_at body_of opcode_number decode_at plain_at last_of before int_of number_at
r19 = next {p = 42} r18 refl refl (ordinary {below = []} (got (later first)) (all_known refl)) (record { blocks = lit≤ tt; values = lit≤ tt })

pub sum-valid : Valid sum
unfolding number_item byte_at block_at immediates_at body_of opcode_number decode_at plain_at last_of before int_of number_at
sum-valid =
    record {
      header = h;
      place = 44;
      strip = S (i32 ∷ []);
      final = (decode_at 2 sum 44).instr;
      reached = r19;
      ends = record { stands = decoded-stands sum (are-bytes sum tt) 2 44 refl; does = refl };
      whole = ends (all_known refl);
      last = refl;
    }

-- ---- and the machine runs it

-- the block's body begins at 17, its `end` is before 42
pub block-closes : close 2 sum 17 ≡ some 42
unfolding close_within number_item byte_at block_at immediates_at body_of opcode_number decode_at plain_at last_of before int_of number_at
block-closes = refl

-- two steps, block and loop, twelve for each turn, three for the last, and two
pub sums : runs sum h 45 (begin h [] []) ≡ ended (I32 6 ∷ []) []
unfolding runs step close_within number_item byte_at block_at immediates_at body_of opcode_number decode_at plain_at last_of before int_of number_at pop_i32 pop_any go_on local alike of_kinds isub
sums = refl

-- a branch out of the strip takes the result and leaves the rest, in three steps; bytes after it do not matter
pub leaves-strip : runs (header_bytes h ++ 0x41 ∷ 0x07 ∷ 0x41 ∷ 0x05 ∷ 0x0C ∷ 0x00 ∷ 0xFF ∷ []) h 3 (begin h [] []) ≡ ended (I32 5 ∷ []) []
unfolding runs step number_item byte_at immediates_at body_of opcode_number decode_at plain_at last_of before int_of number_at go_on of_kinds
leaves-strip = refl

-- one block around it: 1 is the strip, 2 is no target; and an instruction in a block does not reach under its label
pub no_target : runs (header_bytes h ++ 0x41 ∷ 0x05 ∷ 0x02 ∷ 0x7F ∷ 0x41 ∷ 0x06 ∷ 0x0C ∷ 0x02 ∷ []) h 4 (begin h [] []) ≡ halted
unfolding runs step number_item byte_at block_at immediates_at body_of opcode_number decode_at plain_at last_of before int_of number_at go_on of_kinds
no_target = refl

pub not-under : runs (header_bytes h ++ 0x41 ∷ 0x05 ∷ 0x02 ∷ 0x40 ∷ 0x1A ∷ []) h 3 (begin h [] []) ≡ halted
unfolding runs step number_item byte_at block_at immediates_at body_of opcode_number decode_at plain_at last_of before int_of number_at pop_any go_on of_kinds
not-under = refl
