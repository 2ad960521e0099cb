-- The standard's machine over a whole strip (Core 2.0, 4.4): it reads an instruction, does it, and goes on after it, or where a branch leads (4.4.8).
-- It reads no rule; what it has of the header is the version, where the instructions start, the kinds of the locals at the beginning and those of the
-- results at the end.
use Rattle.std.specs.Prelude.{ℕ, zero, suc, ◌+◌, List, [], ◌∷◌, ◌++◌, map, reverse, Bool, true, false, cond, eqb, ltb, length, replicate, take}
use Rattle.std.proofs.Math.Option.{Option, none, some}
use Rattle.card.specs.Card.{DONE}
use Rattle.limits.specs.Limits.{slot, stack_limit, nest_limit}
use Rattle.opcode.specs.Kind.{Kind, i32, i64, v128}
use Rattle.opcode.specs.BlockType.{block_results}
use Rattle.opcode.specs.Table.{Plain, Block, Loop, Br, BrIf, Code, plain, control, vector, Row, carried, float, unassigned}
use Rattle.instr.specs.declared.Instr.{Instr}
use Rattle.instr.specs.declared.Decoded.{Decoded}
use Rattle.instr.specs.Layout.{row_in}
use Rattle.instr.specs.Decode.{decode_at}
use Rattle.machine.specs.Value.{Value, I32, I64, V128}
use Rattle.machine.specs.Exec.{State, Outcome, goes, done, trap, stuck, of_kinds, exec}
use Rattle.rules.specs.Header.{Header, header_bytes}
use Rattle.standard.specs.Closing.{is_end, close}

-- Core's label: a block that was entered and not left
pub record Label : Type 0 where
  pub loop : Bool
  pub results : List Kind  -- what its `end` leaves
  pub under : List Value  -- the operands under it, down to the next label, the top first
  pub body : ℕ  -- where its body begins

-- before the instruction at the place; the state's stack is the operands above the innermost label, and the innermost label is first
pub record Config : Type 0 where
  pub place : ℕ
  pub state : State
  pub labels : List Label

pub data Stage : Type 0 where
  going : Config → Stage
  ended : List Value → List ℕ → Stage  -- the results and the memory
  trapped : ℕ → ℕ → Stage  -- an access past the memory's end: its first address, its size
  halted : Stage  -- stuck

abbrev pub with_stack : State → List Value → State
with_stack σ vs = record { stack = vs; locals = σ.locals; memory = σ.memory }

-- how many operands are under labels
abbrev pub count_under : List Label → ℕ
count_under [] = 0
count_under (l ∷ ls) = length l.under + count_under ls

-- those operands, the top first
abbrev pub under_all : List Label → List Value
under_all [] = []
under_all (l ∷ ls) = l.under ++ under_all ls

-- the whole stack, the top first
abbrev pub whole_stack : Config → List Value
whole_stack c = c.state.stack ++ under_all c.labels

-- ---- what pops and pushes above the innermost label, n bytes long

-- where more operands would stand in all than the stack holds, it is full; what `exec` asks of those above the label is no more (proofs/Full,
-- full-once)
abbrev pub after : Config → ℕ → Outcome → Stage
after c n (goes σ) = cond (ltb stack_limit (length σ.stack + count_under c.labels)) halted (going (record { place = c.place + n; state = σ; labels = c.labels }))
after c n (done vs) = ended vs c.state.memory
after c n (trap a k) = trapped a k
after c n stuck = halted

-- ---- blocks

-- block, loop: a label, and no operand above it; of labels too there is a limit
abbrev pub enter : Bool → Instr → ℕ → Config → Stage
enter b i n c =
    cond (ltb (length c.labels) nest_limit)
    (going (record {
      place = c.place + n;
      state = with_stack c.state [];
      labels = record { loop = b; results = block_results i.block; under = c.state.stack; body = c.place + n } ∷ c.labels;
    }))
    halted

-- `end` of a block: above its label are its results and no more; the label goes
abbrev pub leave : ℕ → Config → Label → List Label → Stage
leave n c l ls =
    cond (of_kinds c.state.stack (reverse l.results))
    (going (record { place = c.place + n; state = with_stack c.state (c.state.stack ++ l.under); labels = ls }))
    halted

-- ---- branches

-- operands of these kinds are on top: they go along, and what is between them and the label does not
abbrev pub along : List Kind → List Value → (List Value → Stage) → Stage
along ks vs f = cond (of_kinds (take (length ks) vs) (reverse ks)) (f (take (length ks) vs)) halted

-- past the `end` of a block, whose label goes
abbrev pub beyond : State → Label → List Label → List Value → Option ℕ → Stage
beyond σ l ls vs none = halted
beyond σ l ls vs (some q) = going (record { place = q; state = with_stack σ (vs ++ l.under); labels = ls })

-- to a label: a loop begins again, after `loop`, and keeps its label; a block is left
abbrev pub jump : List ℕ → Header → State → Label → List Label → Stage
jump s h σ l ls =
    cond l.loop
    (going (record { place = l.body; state = with_stack σ []; labels = l ∷ ls }))
    (along l.results σ.stack (λ vs. beyond σ l ls vs (close h.version s l.body)))

-- to the label of this number; past the last label it is the strip that is left, as at its `end`, and past that there is no target
abbrev pub branch : List ℕ → Header → State → ℕ → List Label → Stage
branch s h σ zero [] = along h.results σ.stack (λ vs. ended (reverse vs) σ.memory)
branch s h σ (suc n) [] = halted
branch s h σ zero (l ∷ ls) = jump s h σ l ls
branch s h σ (suc n) (l ∷ ls) = branch s h σ n ls

-- br_if: on 0 it goes on after it
abbrev pub branch_if : List ℕ → Header → Config → ℕ → ℕ → List Value → Stage
branch_if s h c n x [] = halted
branch_if s h c n x (I32 a ∷ st) =
    cond (eqb a 0) (going (record { place = c.place + n; state = with_stack c.state st; labels = c.labels })) (branch s h (with_stack c.state st) x c.labels)
branch_if s h c n x (I64 a ∷ st) = halted
branch_if s h c n x (V128 a ∷ st) = halted

-- ---- one step

abbrev pub step_plain : Header → Config → ℕ → Instr → Plain → List Label → Stage
step_plain h c n i p [] = after c n (exec h.results (plain p) i c.state)
step_plain h c n i p (l ∷ ls) = cond (is_end p) (leave n c l ls) (after c n (exec h.results (plain p) i c.state))

abbrev pub step_code : List ℕ → Header → Config → ℕ → Instr → Code → Stage
step_code s h c n i (plain p) = step_plain h c n i p c.labels
step_code s h c n i (control Block) = enter false i n c
step_code s h c n i (control Loop) = enter true i n c
step_code s h c n i (control Br) = branch s h c.state i.index c.labels
step_code s h c n i (control BrIf) = branch_if s h c n i.index c.state.stack
step_code s h c n i (vector o) = after c n (exec h.results (vector o) i c.state)

-- what is not carried is no instruction
abbrev pub step_row : List ℕ → Header → Config → Decoded → Row → Stage
step_row s h c d (carried k) = step_code s h c d.len d.instr k
step_row s h c d float = halted
step_row s h c d unassigned = halted

-- nor are bytes that decoding refuses
abbrev pub step_by : List ℕ → Header → Config → Decoded → Stage
step_by s h c d = cond (eqb d.code DONE) (step_row s h c d (row_in h.version d.instr)) halted

unfoldable pub step : List ℕ → Header → Config → Stage
step s h c = step_by s h c (decode_at h.version s c.place)

abbrev pub onward : List ℕ → Header → Stage → Stage
onward s h (going c) = step s h c
onward s h (ended vs m) = ended vs m
onward s h (trapped a n) = trapped a n
onward s h halted = halted

-- k steps
unfoldable pub runs : List ℕ → Header → ℕ → Config → Stage
runs s h zero c = going c
runs s h (suc k) c = onward s h (runs s h k c)

-- further locals start at zero
abbrev pub zero_of : Kind → Value
zero_of i32 = I32 0
zero_of i64 = I64 0
zero_of v128 = V128 (replicate slot 0)

-- with these arguments and this memory
abbrev pub begin : Header → List Value → List ℕ → Config
begin h vs m = record { place = length (header_bytes h); state = record { stack = []; locals = vs ++ map zero_of h.further; memory = m }; labels = [] }
