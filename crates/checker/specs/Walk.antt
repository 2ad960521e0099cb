-- The check's walk, for those who follow it over a strip that keeps every rule: where it begins, what it holds at a place, and one step of it.
use Rattle.std.specs.Prelude.{ℕ, suc, ◌+◌, ◌*◌, ◌^◌, ◌≡◌, Bool, true, false, cond, List, [], ◌∷◌, ◌++◌, map, ltb, length, get_or, drop}
use Rattle.limits.specs.Limits.{stack_limit, nest_limit}
use Rattle.opcode.specs.Kind.{Kind, kind_byte}
use Rattle.opcode.specs.BlockType.{is_block_type, block_results}
use Rattle.instr.specs.declared.Instr.{Instr}
use Rattle.instr.specs.declared.Scanned.{Scanned}
use Rattle.instr.specs.Decode.{decode_in}
use Rattle.instr.specs.Scan.{scan_of}
use Rattle.instr.specs.Layout.{Stands}
use Rattle.rules.specs.Typing.{Frame, all_values}
use Rattle.rules.specs.Strip.{Within, Reaches, Valid}
use Rattle.checker.specs.declared.turns.State.{State}

-- where the instructions begin: the counts stand after mark and version, a kind byte for each after them; 8 of what has no counts
unfoldable pub start_of : List ℕ → ℕ
start_of s = cond (ltb (length s) 8) 8 (8 + get_or s 5 0 + get_or s 6 0 + get_or s 7 0)

-- ---- the kinds on the stack, a byte each, the bottom first

-- the bytes begin with these kinds, n of them
pub record KindBytes (bytes : List ℕ) (n : ℕ) (κs : List Kind) : Type 0 where
  pub many : length κs ≡ n
  pub rest : List ℕ
  pub here : bytes ≡ map kind_byte κs ++ rest

-- ---- the open blocks, a word each, the outermost first

abbrev pub bit : Bool → ℕ
bit b = cond b 1 0

-- a block's word: its type, a byte; whether it is a loop, and whether the code around it is dead, a bit each; above them the floor of what is around it
abbrev pub word : ℕ → ℕ → Bool → Bool → ℕ
word floor type loop dead = type + 2 ^ 8 * bit loop + 2 ^ 9 * bit dead + 2 ^ 10 * floor

-- the strip's results and the words of so many open blocks are these frames; the innermost's floor, and whether code is dead in it
pub data OpenBlocks (rs : List Kind) (blocks : List ℕ) : ℕ → ℕ → Bool → List Frame → Type 0 where
  strip : {f : Frame} → f.loop ≡ false → f.results ≡ rs → OpenBlocks rs blocks 0 0 f.dead (f ∷ [])
  block : (type : ℕ) {nest floor : ℕ} {dead : Bool} {f g : Frame} {fs : List Frame} → OpenBlocks rs blocks nest floor dead (g ∷ fs)
      → get_or blocks nest 0 ≡ word floor type f.loop dead → is_block_type type ≡ true → f.results ≡ block_results type
      → OpenBlocks rs blocks (suc nest) (length (all_values (g ∷ fs))) f.dead (f ∷ g ∷ fs)

-- with the kinds on the stack
pub record Framed (rs : List Kind) (kinds blocks : List ℕ) (depth nest floor : ℕ) (dead : Bool) (fs : List Frame) : Type 0 where
  pub holds : KindBytes kinds depth (all_values fs)
  pub nested : OpenBlocks rs blocks nest floor dead fs
  pub within : Within fs

-- ---- the walk

-- at the first instruction
abbrev pub outset : State
outset = record { depth = 0; nest = 0; floor = 0; dead = false }

-- the walk over a strip that keeps every rule stands at p: two arrays and a state hold what is known there
pub record Walks (s : List ℕ) (p : ℕ) (kinds blocks : List ℕ) (state : State) : Type 0 where
  pub valid : Valid s
  pub frames : List Frame
  pub reached : Reaches s valid.header p frames
  pub framed : Framed valid.header.results kinds blocks state.depth state.nest state.floor state.dead frames
  pub kinds_long : length kinds ≡ stack_limit
  pub blocks_long : length blocks ≡ nest_limit

-- what scanning tells of the instruction at p
abbrev pub read_at : List ℕ → ℕ → Scanned
read_at s p = scan_of (decode_in (get_or s 3 0) s p)

-- after the strip's own `end` the walk is over, and all is as it was; after another instruction it goes on, and beyond what is held then the arrays
-- are as they were
pub data Goes (s : List ℕ) (p : ℕ) (kinds blocks : List ℕ) (state : State) : List ℕ → List ℕ → State → Type 0 where
  over : p ≡ length s → Goes s p kinds blocks state kinds blocks state
  on : {kinds' blocks' : List ℕ} {state' : State} → Walks s p kinds' blocks' state' → drop state'.depth kinds' ≡ drop state'.depth kinds
      → drop state'.nest blocks' ≡ drop state'.nest blocks → Goes s p kinds blocks state kinds' blocks' state'

-- one step, over the instruction at p
pub record Steps (s : List ℕ) (p : ℕ) (kinds blocks : List ℕ) (state : State) (kinds' blocks' : List ℕ) (state' : State) : Type 0 where
  pub before : Walks s p kinds blocks state
  pub instr : Instr
  pub size : ℕ
  pub stands : Stands before.valid.header.version s p instr size
  pub goes : Goes s (p + size) kinds blocks state kinds' blocks' state'
