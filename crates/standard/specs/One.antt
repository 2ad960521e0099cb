-- The machine of version 1 by itself, as 01 has it: no labels, one stack (02, C-13: version 1 strips keep their meaning).
use Rattle.std.specs.Prelude.{ℕ, zero, suc, ◌+◌, cond, List, [], ◌++◌, map, eqb, length}
use Rattle.card.specs.Card.{DONE}
use Rattle.opcode.specs.Table.{Row, carried, float, unassigned}
use Rattle.instr.specs.declared.Decoded.{Decoded}
use Rattle.instr.specs.Layout.{row_in}
use Rattle.instr.specs.Decode.{decode_at}
use Rattle.machine.specs.Value.{Value}
use Rattle.machine.specs.Exec.{State, Outcome, goes, done, trap, stuck, exec}
use Rattle.rules.specs.Header.{Header, header_bytes}
use Rattle.standard.specs.Standard.{Config, Stage, going, ended, trapped, halted, zero_of}

pub record ConfigOne : Type 0 where
  pub place : ℕ
  pub state : State

pub data StageOne : Type 0 where
  going_one : ConfigOne → StageOne
  ended_one : List Value → List ℕ → StageOne
  trapped_one : ℕ → ℕ → StageOne
  halted_one : StageOne

abbrev pub after_one : ConfigOne → ℕ → Outcome → StageOne
after_one c n (goes σ) = going_one (record { place = c.place + n; state = σ })
after_one c n (done vs) = ended_one vs c.state.memory
after_one c n (trap a k) = trapped_one a k
after_one c n stuck = halted_one

abbrev pub row_one : Header → ConfigOne → Decoded → Row → StageOne
row_one h c d (carried op) = after_one c d.len (exec h.results op d.instr c.state)
row_one h c d float = halted_one
row_one h c d unassigned = halted_one

abbrev pub by_one : Header → ConfigOne → Decoded → StageOne
by_one h c d = cond (eqb d.code DONE) (row_one h c d (row_in 1 d.instr)) halted_one

unfoldable pub step_one : List ℕ → Header → ConfigOne → StageOne
step_one s h c = by_one h c (decode_at 1 s c.place)

abbrev pub onward_one : List ℕ → Header → StageOne → StageOne
onward_one s h (going_one c) = step_one s h c
onward_one s h (ended_one vs m) = ended_one vs m
onward_one s h (trapped_one a n) = trapped_one a n
onward_one s h halted_one = halted_one

unfoldable pub runs_one : List ℕ → Header → ℕ → ConfigOne → StageOne
runs_one s h zero c = going_one c
runs_one s h (suc k) c = onward_one s h (runs_one s h k c)

abbrev pub begin_one : Header → List Value → List ℕ → ConfigOne
begin_one h vs m = record { place = length (header_bytes h); state = record { stack = []; locals = vs ++ map zero_of h.further; memory = m } }

-- ---- as a state of the standard's machine, without labels

abbrev pub bare : ConfigOne → Config
bare c = record { place = c.place; state = c.state; labels = [] }

abbrev pub bare_stage : StageOne → Stage
bare_stage (going_one c) = going (bare c)
bare_stage (ended_one vs m) = ended vs m
bare_stage (trapped_one a n) = trapped a n
bare_stage halted_one = halted
