-- What an instruction takes and leaves among locals of these kinds and inside these blocks (Core 2.0, 3.3.1, 3.3.3 to 3.3.5, 3.3.7 to 3.3.9), the
-- last on top.
use Rattle.std.specs.Prelude.{ℕ, zero, suc, ◌≡◌, Bool, true, false, cond, List, [], ◌∷◌, ◌++◌}
use Rattle.std.proofs.Math.Option.{some}
use Rattle.opcode.specs.Kind.{Kind, i32}
use Rattle.opcode.specs.BlockType.{block_results}
use Rattle.opcode.specs.Table.{End, Drop, LocalGet, LocalSet, LocalTee, Block, Loop, Br, BrIf, Code, plain, control}
use Rattle.opcode.specs.Effect.{◌⇒◌, effect}
use Rattle.instr.specs.declared.Instr.{Instr}

-- ---- blocks

-- a block that is open, or the strip itself, which is around them all: what is known at a place of it
pub record Frame : Type 0 where
  pub loop : Bool
  pub results : List Kind  -- what its `end` leaves
  pub values : List Kind  -- what stands on the stack since it began
  pub dead : Bool  -- after a `br`, up to its `end`: under the values may stand any others, of any kinds

-- as it begins
abbrev pub opened : Bool → List Kind → Frame
opened l ks = record { loop = l; results = ks; values = []; dead = false }

-- with these values
abbrev pub holding : Frame → List Kind → Frame
holding f ks = record { loop = f.loop; results = f.results; values = ks; dead = f.dead }

-- after a `br` in it
abbrev pub deadened : Frame → Frame
deadened f = record { loop = f.loop; results = f.results; values = []; dead = true }

-- what a branch to it takes: a loop begins again, a block ends
abbrev pub branch_kinds : Frame → List Kind
branch_kinds f = cond f.loop [] f.results

-- the whole stack, as far as it is known; the innermost block is first
abbrev pub all_values : List Frame → List Kind
all_values [] = []
all_values (f ∷ fs) = all_values fs ++ f.values

-- no code here is dead
abbrev pub Live : List Frame → Type 0
Live [] = Unit {0}
Live (f ∷ fs) = (f.dead ≡ false) × Live fs

-- a branch of this number goes to g
pub data Target : List Frame → ℕ → Frame → Type 0 where
  innermost : {g : Frame} {fs : List Frame} → Target (g ∷ fs) zero g
  outer : {f g : Frame} {fs : List Frame} {n : ℕ} → Target fs n g → Target (f ∷ fs) (suc n) g

-- ---- operands

-- the n-th of the locals is of kind k
pub data Local : List Kind → ℕ → Kind → Type 0 where
  first : {k : Kind} {ls : List Kind} → Local (k ∷ ls) zero k
  later : {j k : Kind} {ls : List Kind} {n : ℕ} → Local ls n k → Local (j ∷ ls) (suc n) k

-- 000's signature, or by the kind of the local or of the value
pub data Typed (ls : List Kind) (n : ℕ) : Code → List Kind → List Kind → Type 0 where
  by_signature : {c : Code} {ins outs : List Kind} → effect c ≡ some (ins ⇒ outs) → Typed ls n c ins outs
  dropped : {k : Kind} → Typed ls n (plain Drop) (k ∷ []) []
  got : {k : Kind} → Local ls n k → Typed ls n (plain LocalGet) [] (k ∷ [])
  set : {k : Kind} → Local ls n k → Typed ls n (plain LocalSet) (k ∷ []) []
  teed : {k : Kind} → Local ls n k → Typed ls n (plain LocalTee) (k ∷ []) (k ∷ [])

-- these kinds are on top, over those below: all are known; or the code is dead, none are below, and the first of them are any
pub data Has (f : Frame) : List Kind → List Kind → Type 0 where
  all_known : {below ins : List Kind} → f.values ≡ below ++ ins → Has f below ins
  any : (unknown : List Kind) {ins : List Kind} → f.dead ≡ true → unknown ++ f.values ≡ ins → Has f [] ins

-- the nearest block, or the strip, has its results and nothing else
pub data Ends : List Frame → Type 0 where
  ends : {f : Frame} {fs : List Frame} → Has f [] f.results → Ends (f ∷ fs)

-- ---- one instruction: the frames before and after it

pub data Types (ls : List Kind) (i : Instr) : Code → List Frame → List Frame → Type 0 where
  -- over any stack below (Core 3.3.9)
  ordinary : {c : Code} {ins outs below : List Kind} {f : Frame} {fs : List Frame} → Typed ls i.index c ins outs → Has f below ins
      → Types ls i c (f ∷ fs) (holding f (below ++ outs) ∷ fs)
  -- br: what follows is dead
  branches : {below : List Kind} {f g : Frame} {fs : List Frame} → Target (f ∷ fs) i.index g → Has f below (branch_kinds g)
      → Types ls i (control Br) (f ∷ fs) (deadened f ∷ fs)
  -- br_if: an i32 on top, and what the branch takes is left
  may_branch : {below : List Kind} {f g : Frame} {fs : List Frame} → Target (f ∷ fs) i.index g → Has f below (branch_kinds g ++ i32 ∷ [])
      → Types ls i (control BrIf) (f ∷ fs) (holding f (below ++ branch_kinds g) ∷ fs)
  opens_block : {fs : List Frame} → Types ls i (control Block) fs (opened false (block_results i.block) ∷ fs)
  opens_loop : {fs : List Frame} → Types ls i (control Loop) fs (opened true (block_results i.block) ∷ fs)
  -- `end` of a block: around it, its results are left
  closes : {f g : Frame} {fs : List Frame} → Ends (f ∷ g ∷ fs) → Types ls i (plain End) (f ∷ g ∷ fs) (holding g (g.values ++ f.results) ∷ fs)

-- ---- which instructions a rule asks

-- those that name a local
pub data Names : Code → Type 0 where
  get_names : Names (plain LocalGet)
  set_names : Names (plain LocalSet)
  tee_names : Names (plain LocalTee)

-- those that begin a block
pub data Opens : Code → Type 0 where
  block_opens : Opens (control Block)
  loop_opens : Opens (control Loop)

-- those that name a block
pub data Branches : Code → Type 0 where
  br_branches : Branches (control Br)
  if_branches : Branches (control BrIf)
