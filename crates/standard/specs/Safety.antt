-- What demand 3 says of the standard's machine: a strip that keeps the rules never gets it stuck, and in a sound state at a place where 12 to 15,
-- 17 or 18 is broken it is stuck, a br_if over 0 excepted.
use Rattle.std.specs.Prelude.{ℕ, ◌+◌, ◌^◌, ◌<◌, ◌≡◌, false, List, [], ◌∷◌, ◌++◌, reverse, map, length, get_or}
use Rattle.std.proofs.Math.Option.{some}
use Rattle.opcode.specs.Table.{End, Br, BrIf, Code, plain, control}
use Rattle.instr.specs.declared.Instr.{Instr}
use Rattle.machine.specs.Value.{Value, I32, kind_of, AllInRange}
use Rattle.machine.specs.Accesses.{Accesses}
use Rattle.rules.specs.Header.{Header, locals}
use Rattle.rules.specs.Typing.{Frame, opened, Live}
use Rattle.rules.specs.Strip.{Reads, Reaches}
use Rattle.rules.specs.Around.{Around}
use Rattle.standard.specs.Closing.{close}
use Rattle.standard.specs.Standard.{Label, Config, Stage, going, ended, trapped, halted, step, runs}

-- each label is that of a block, and under it stand the values of the block around it; its body is where the block begins by the rules
pub data Nested (s : List ℕ) (h : Header) : List Frame → List Label → Type 0 where
  outermost : {f : Frame} → f.loop ≡ false → f.results ≡ h.results → Nested s h (f ∷ []) []
  inside : {f g : Frame} {fs : List Frame} {l : Label} {ls : List Label} → l.loop ≡ f.loop → l.results ≡ f.results
      → map kind_of l.under ≡ reverse g.values → AllInRange l.under → Reaches s h l.body (opened f.loop f.results ∷ g ∷ fs)
      → Nested s h (g ∷ fs) ls → Nested s h (f ∷ g ∷ fs) (l ∷ ls)

-- from the body of each label the `end` of its block is found
abbrev pub AllEnd : List ℕ → Header → List Label → Type 0
AllEnd s h [] = Unit {0}
AllEnd s h (l ∷ ls) = ((q : ℕ) × (close h.version s l.body ≡ some q)) × AllEnd s h ls

-- where the body of each label begins
abbrev pub bodies : List Label → List ℕ
bodies [] = []
bodies (l ∷ ls) = l.body ∷ bodies ls

-- the labels are those of the blocks around the place, by the bytes before it
abbrev pub Placed : List ℕ → Header → Config → Type 0
Placed s h c = Around s h c.place (bodies c.labels)

-- kinds on the stack, the last on top, labels, kinds of the locals, and all values in range
pub record Fits (s : List ℕ) (h : Header) (f : Frame) (fs : List Frame) (c : Config) : Type 0 where
  pub stacked : map kind_of c.state.stack ≡ reverse f.values
  pub nested : Nested s h (f ∷ fs) c.labels
  pub held : map kind_of c.state.locals ≡ locals h
  pub stack_range : AllInRange c.state.stack
  pub local_range : AllInRange c.state.locals
  pub memory_range : (k : ℕ) → get_or c.state.memory k 0 < 2 ^ 8

-- a state that the strip reaches by its kinds
pub record Sound (s : List ℕ) (h : Header) (c : Config) : Type 0 where
  pub frame : Frame
  pub outer : List Frame
  pub reached : Reaches s h c.place (frame ∷ outer)
  pub live : Live (frame ∷ outer)
  pub fits : Fits s h frame outer c

-- a run may begin with these: arguments of the parameters' kinds and in range, and a memory of bytes
pub record Given (h : Header) (vs : List Value) (m : List ℕ) : Type 0 where
  pub kinds : map kind_of vs ≡ h.parameters
  pub range : AllInRange vs
  pub bytes : (k : ℕ) → get_or m k 0 < 2 ^ 8

-- the instruction that stands at the place of c accesses n bytes from the address a on, and the memory ends before them
pub record Strays (s : List ℕ) (h : Header) (c : Config) (a n : ℕ) : Type 0 where
  pub instr : Instr
  pub code : Code
  pub size : ℕ
  pub reads : Reads h.version s c.place instr code size
  pub accesses : Accesses instr code c.state.stack a n
  pub past : length c.state.memory < a + n

-- with so many labels and this stack, its top first, the instruction i of this code is one at which a strip is left with vs, the first of them lowest
-- on the stack: an `end` that closes no block, over vs alone; or a branch to the number after those of all the labels, with vs on top (02, C-13: "at
-- the outermost that is DONE"; Core 2.0, 4.4.8), which br_if takes where the number that it pops is not 0
pub data Exits (i : Instr) : Code → ℕ → List Value → List Value → Type 0 where
  by_end : {vs : List Value} → Exits i (plain End) 0 (reverse vs) vs
  by_br : {vs : List Value} (below : List Value) → Exits i (control Br) i.index (reverse vs ++ below) vs
  by_br_if : {x : ℕ} {vs : List Value} (below : List Value) → (x ≡ 0 → ⊥) → Exits i (control BrIf) i.index (I32 x ∷ (reverse vs ++ below)) vs

-- the instruction that stands at the place of c leaves the strip with vs, which are of the results' kinds, and with the memory m, as it is
pub record Finishes (s : List ℕ) (h : Header) (c : Config) (vs : List Value) (m : List ℕ) : Type 0 where
  pub instr : Instr
  pub code : Code
  pub size : ℕ
  pub reads : Reads h.version s c.place instr code size
  pub exits : Exits instr code (length c.labels) c.state.stack vs
  pub kinds : map kind_of vs ≡ h.results
  pub memory : m ≡ c.state.memory

-- from b on: going on in a sound state, ended with results of the declared kinds and in range, where the strip is left, or trapped at an access past
-- the end; these two in a sound state that the machine came to; the memory is as long as it was
pub data Safe (s : List ℕ) (h : Header) (b : Config) : Stage → Type 0 where
  safe_going : {c : Config} → Sound s h c → length c.state.memory ≡ length b.state.memory → Safe s h b (going c)
  safe_ended : (j : ℕ) {c : Config} {vs : List Value} {mem : List ℕ} → runs s h j b ≡ going c → Sound s h c → Finishes s h c vs mem
      → map kind_of vs ≡ h.results → AllInRange vs → length mem ≡ length b.state.memory → Safe s h b (ended vs mem)
  safe_trapped : (j : ℕ) {c : Config} {a n : ℕ} → runs s h j b ≡ going c → Sound s h c → length c.state.memory ≡ length b.state.memory
      → Strays s h c a n → Safe s h b (trapped a n)

-- stuck where it is; or at a br_if over 0, which by Core pops it and asks no more
pub data StuckHere (s : List ℕ) (h : Header) (c : Config) : Type 0 where
  stuck_here : step s h c ≡ halted → StuckHere s h c
  not_taken : {i : Instr} {n : ℕ} (st : List Value) → Reads h.version s c.place i (control BrIf) n → c.state.stack ≡ I32 0 ∷ st → StuckHere s h c

-- from b it traps before the place p, or is stuck at it: a strip without blocks
pub data StuckAt (s : List ℕ) (h : Header) (b : Config) (p : ℕ) : Type 0 where
  traps_before : (k a n : ℕ) (c : Config) → runs s h k b ≡ going c → c.place < p → step s h c ≡ trapped a n → Strays s h c a n → StuckAt s h b p
  stuck_there : (k : ℕ) (c : Config) → runs s h k b ≡ going c → c.place ≡ p → step s h c ≡ halted → StuckAt s h b p
