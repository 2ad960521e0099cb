-- Core's validation with no word of dead code (Core 2.0, 3.3.8, 3.3.9): every stack is whole, and after a `br` it is any. This is what frames mean: a
-- dead one stands for every stack that ends in its values, another for its values alone. The rules pass what Core does, within the limits: dead-exact
-- of proofs/Dead for one instruction; core-valid, valid-core of proofs/Core for a strip.
use Rattle.std.specs.Prelude.{ℕ, ◌+◌, ◌≡◌, true, false, List, [], ◌∷◌, ◌++◌, length}
use Rattle.card.specs.Card.{DEEP, NEST}
use Rattle.opcode.specs.Kind.{Kind, i32}
use Rattle.opcode.specs.BlockType.{block_results}
use Rattle.opcode.specs.Table.{End, Block, Loop, Br, BrIf, Code, plain, control}
use Rattle.instr.specs.declared.Instr.{Instr}
use Rattle.rules.specs.Header.{Header, Declares, header_bytes, locals}
use Rattle.rules.specs.Typing.{Frame, opened, holding, branch_kinds, Target, Typed, Types}
use Rattle.rules.specs.Strip.{Reads}
use Rattle.rules.specs.Breach.{Breach}

-- ---- one instruction: the stacks before and after it

pub data Allows (ls : List Kind) (i : Instr) : Code → List Frame → List Frame → Type 0 where
  ordinary : {c : Code} {ins outs : List Kind} {f : Frame} {fs : List Frame} (below : List Kind) → Typed ls i.index c ins outs → f.values ≡ below ++ ins
      → Allows ls i c (f ∷ fs) (holding f (below ++ outs) ∷ fs)
  -- [t1* t*] → [t2*], where t1* and t2* are any
  br : {f g : Frame} {fs : List Frame} (below any : List Kind) → Target (f ∷ fs) i.index g → f.values ≡ below ++ branch_kinds g
      → Allows ls i (control Br) (f ∷ fs) (holding f any ∷ fs)
  -- [t* i32] → [t*]
  br_if : {f g : Frame} {fs : List Frame} (below : List Kind) → Target (f ∷ fs) i.index g → f.values ≡ below ++ (branch_kinds g ++ i32 ∷ [])
      → Allows ls i (control BrIf) (f ∷ fs) (holding f (below ++ branch_kinds g) ∷ fs)
  block : {fs : List Frame} → Allows ls i (control Block) fs (opened false (block_results i.block) ∷ fs)
  loop : {fs : List Frame} → Allows ls i (control Loop) fs (opened true (block_results i.block) ∷ fs)
  end : {f g : Frame} {fs : List Frame} → f.values ≡ f.results → Allows ls i (plain End) (f ∷ g ∷ fs) (holding g (g.values ++ f.results) ∷ fs)

-- ---- what frames stand for

-- these are under the values, and all is known
abbrev pub over : List Kind → Frame → Frame
over u f = record { loop = f.loop; results = f.results; values = u ++ f.values; dead = false }

-- g is one that f stands for: in dead code anything may be under the values, elsewhere nothing
pub record Fills (f g : Frame) : Type 0 where
  pub under : List Kind
  pub whole : g ≡ over under f
  pub none_live : f.dead ≡ false → under ≡ []

-- so all of them
pub data AllFill : List Frame → List Frame → Type 0 where
  none : AllFill [] []
  each : {f g : Frame} {fs gs : List Frame} → Fills f g → AllFill fs gs → AllFill (f ∷ fs) (g ∷ gs)

-- by the rules: it is typed, and gs' is what the frames after it stand for
pub record Typable (ls : List Kind) (i : Instr) (c : Code) (fs gs' : List Frame) : Type 0 where
  pub after : List Frame
  pub typed : Types ls i c fs after
  pub fill : AllFill after gs'

-- by Core: from what the frames stand for it may come to gs'
pub record Possible (ls : List Kind) (i : Instr) (c : Code) (fs gs' : List Frame) : Type 0 where
  pub before : List Frame
  pub fill : AllFill fs before
  pub allowed : Allows ls i c before gs'

-- ---- the strip

-- from the front Core allows it all, up to the place p and to these stacks
pub data Passes (s : List ℕ) (h : Header) : ℕ → List Frame → Type 0 where
  from_front : Declares s h → Passes s h (length (header_bytes h)) (opened false h.results ∷ [])
  one_more : {p n : ℕ} {i : Instr} {c : Code} {gs gs' : List Frame} → Passes s h p gs → Reads h.version s p i c n → Allows (locals h) i c gs gs'
      → Passes s h (p + n) gs'

pub record CoreValid (s : List ℕ) : Type 0 where
  pub header : Header
  pub place : ℕ
  pub strip : Frame
  pub final : Instr
  pub passes : Passes s header place (strip ∷ [])
  pub ends : Reads header.version s place final (plain End) 1
  pub whole : strip.values ≡ strip.results
  pub last : place + 1 ≡ length s

-- what Core has no word of: more values than the stack holds, more blocks than may be open
pub data PastLimit (s : List ℕ) : Type 0 where
  too_deep : {p : ℕ} → Breach s DEEP p → PastLimit s
  too_nested : {p : ℕ} → Breach s NEST p → PastLimit s
