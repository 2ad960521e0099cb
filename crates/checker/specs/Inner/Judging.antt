-- Inner: one instruction inside these frames, a constructor for each line of the card that may be its answer.
use Rattle.std.specs.Prelude.{ℕ, ◌≤◌, ◌<◌, ◌^◌, ◌≡◌, Bool, true, false, cond, List, ◌++◌, length, drop, Ok, Err}
use Rattle.std.specs.declared.result.Result.{Result}
use Rattle.std.proofs.Math.Option.{some}
use Rattle.card.specs.Card.{LOCAL, OPERAND, DEEP, RESULT, NEST, LABEL}
use Rattle.limits.specs.Limits.{stack_limit, nest_limit, result_limit}
use Rattle.opcode.specs.Kind.{Kind}
use Rattle.opcode.specs.BlockType.{is_block_type}
use Rattle.opcode.specs.Table.{End, Control, Block, Loop, Br, BrIf, Code, plain, control, carried}
use Rattle.opcode.specs.Effect.{◌⇒◌}
use Rattle.opcode.specs.Number.{packed}
use Rattle.opcode.specs.Entry.{entry_of, group_in}
use Rattle.instr.specs.declared.Instr.{Instr}
use Rattle.rules.specs.Typing.{Frame, all_values, Target, Local, Typed, Has, Types, Names, Opens, Branches, Ends}
use Rattle.checker.specs.declared.turns.State.{State}
use Rattle.checker.specs.Walk.{KindBytes, Framed}
use Rattle.checker.specs.Inner.Stack.{Small}
use Rattle.checker.specs.Inner.Blocks.{top_first}

abbrev pub opener : Bool → Control
opener loop = cond loop Loop Block

abbrev pub brancher : Bool → Control
brancher maybe = cond maybe BrIf Br

-- neither `end` nor one that goes by blocks
pub record Ordinary (c : Code) : Type 0 where
  pub not_end : c ≡ plain End → ⊥
  pub not_control : (k : Control) → c ≡ control k → ⊥

-- the number of what the instruction takes and leaves here; 0 where its local is not declared
pub data Effected (ls : List Kind) (n : ℕ) (c : Code) (f : Frame) : ℕ → Type 0 where
  undeclared : Names c → ((k : Kind) → Local ls n k → ⊥) → Effected ls n c f 0
  typed_by : {ins outs : List Kind} → Typed ls n c ins outs → Small ins outs
      → ((ins' outs' below : List Kind) → Typed ls n c ins' outs' → Has f below ins' → Has f below ins) → Effected ls n c f (packed (some (ins ⇒ outs)))

-- an ordinary instruction: the stack's depth then
pub data Gives (ls : List Kind) (n : ℕ) (c : Code) (outer : List Kind) (f : Frame) (kinds : List ℕ) : Result ℕ ℕ → Type 0 where
  undeclared_local : Names c → ((k : Kind) → Local ls n k → ⊥) → Gives ls n c outer f kinds (Err LOCAL)
  lacking : {ins outs : List Kind} → Typed ls n c ins outs → ((ins outs below : List Kind) → Typed ls n c ins outs → Has f below ins → ⊥)
      → Gives ls n c outer f kinds (Err OPERAND)
  overfull : {ins outs : List Kind} (below : List Kind) → Typed ls n c ins outs → Has f below ins → stack_limit < length (outer ++ (below ++ outs))
      → Gives ls n c outer f kinds (Err DEEP)
  does : {d : ℕ} {ins outs : List Kind} (below : List Kind) → Typed ls n c ins outs → Has f below ins → length (outer ++ (below ++ outs)) ≤ stack_limit
      → KindBytes kinds d (outer ++ (below ++ outs)) → Gives ls n c outer f kinds (Ok d)

-- any instruction: what is known then
pub data Judges (ls rs : List Kind) (i : Instr) (c : Code) (fs : List Frame) (kinds blocks : List ℕ) : Result State ℕ → Type 0 where
  no_local : Names c → ((k : Kind) → Local ls i.index k → ⊥) → Judges ls rs i c fs kinds blocks (Err LOCAL)
  too_nested : Opens c → nest_limit < length fs → Judges ls rs i c fs kinds blocks (Err NEST)
  no_label : Branches c → ((g : Frame) → Target fs i.index g → ⊥) → Judges ls rs i c fs kinds blocks (Err LABEL)
  untyped : (c ≡ plain End → ⊥) → (Names c → (k : Kind) × Local ls i.index k) → (Branches c → (g : Frame) × Target fs i.index g)
      → ((fs' : List Frame) → Types ls i c fs fs' → ⊥) → Judges ls rs i c fs kinds blocks (Err OPERAND)
  no_results : c ≡ plain End → (Ends fs → ⊥) → Judges ls rs i c fs kinds blocks (Err RESULT)
  too_deep : {fs' : List Frame} → Types ls i c fs fs' → stack_limit < length (all_values fs') → Judges ls rs i c fs kinds blocks (Err DEEP)
  typed : {st : State} {fs' : List Frame} → Types ls i c fs fs' → Framed rs kinds blocks st.depth st.nest st.floor st.dead fs' → Judges ls rs i c fs kinds blocks (Ok st)

-- the stack's depth changes, and nothing else
abbrev pub at_depth : Result ℕ ℕ → ℕ → ℕ → Bool → Result State ℕ
at_depth (Ok d) nest floor dead = Ok (record { depth = d; nest = nest; floor = floor; dead = dead })
at_depth (Err e) nest floor dead = Err e

-- an instruction that was read, over these frames
pub record Faces (s : List ℕ) (locals results entry index : ℕ) (kinds blocks : List ℕ) (depth nest floor : ℕ) (dead : Bool) (c : Code) (i : Instr) (ls rs : List Kind) (fs : List Frame) : Type 0 where
  pub row : entry ≡ entry_of (carried c)
  pub names : (Opens c → ⊥) → index ≡ i.index
  pub types : Opens c → (index ≡ i.block) × (is_block_type i.block ≡ true)
  pub locals_are : KindBytes (drop 8 s) locals ls
  pub results_are : top_first rs ≡ results
  pub few : length rs ≤ result_limit
  pub framed : Framed rs kinds blocks depth nest floor dead fs

-- whether it is ordinary, by its group
pub record TellsStraight (entry : ℕ) (r : Bool) : Type 0 where
  pub straight : r ≡ true → (0 < group_in entry) × (group_in entry < 25)
  pub turns : r ≡ false → 0 < group_in entry → 25 ≤ group_in entry

-- what the code must know to be safe
pub record AtTurn (results entry index : ℕ) (kinds blocks : List ℕ) (depth nest floor : ℕ) : Type 0 where
  pub small : results < 2 ^ 32
  pub type_in : 25 ≤ group_in entry → group_in entry < 27 → index < 256
  pub end_inner : group_in entry ≡ 0 → 0 < nest
  pub floor_in : floor ≤ depth
  pub depth_in : depth ≤ stack_limit
  pub nest_in : nest ≤ nest_limit
  pub kinds_long : length kinds ≡ stack_limit
  pub blocks_long : length blocks ≡ nest_limit
