-- Inner: how the code holds a configuration of the standard's machine: one flat stack, whatever labels stand in it, and three numbers for each label.
use Rattle.std.specs.Prelude.{ℕ, ◌+◌, ◌*◌, ◌≤◌, ◌≡◌, Bool, true, ◌||◌, List, [], ◌∷◌, ◌++◌, eqb, ltb, length, get_or}
use Rattle.limits.specs.Limits.{slot, stack_limit, stack_bytes, nest_limit}
use Rattle.opcode.specs.Table.{Code}
use Rattle.opcode.specs.Number.{group_of_code}
use Rattle.instr.specs.declared.Instr.{Instr}
use Rattle.machine.specs.Value.{Value, all_bytes}
use Rattle.machine.specs.Memory.{part}
use Rattle.machine.specs.Exec.{State}
use Rattle.machine.specs.Inner.Rep.{Rep}
use Rattle.rules.specs.Header.{Header}
use Rattle.rules.specs.Strip.{Reads, Valid}
use Rattle.rules.specs.Typing.{Frame}
use Rattle.checker.specs.Survey.{way}
use Rattle.standard.specs.Standard.{Label, Config, Stage, going, ended, with_stack, count_under, under_all, whole_stack, branch}
use Rattle.standard.specs.Safety.{Nested, Sound, Safe}
use Rattle.run.specs.Run.{Slots}

-- ---- labels

-- what a branch to it does
abbrev pub way_of : Label → ℕ
way_of l = way l.loop l.results

-- of each label, the outermost first: how many values are under it, its way, and where its body begins
abbrev pub Marked : List Label → List ℕ → Type 0
Marked [] ms = Unit {0}
Marked (l ∷ ls) ms =
    (get_or ms (3 * length ls) 0 ≡ count_under (l ∷ ls)) × (get_or ms (3 * length ls + 1) 0 ≡ way_of l) × (get_or ms (3 * length ls + 2) 0 ≡ l.body) × (length l.results ≤ 1) × Marked ls ms

-- at last, how many there are
abbrev pub open_in : List ℕ → ℕ
open_in ms = get_or ms (3 * nest_limit) 0

-- ---- a configuration

pub record Carries (s : List ℕ) (h : Header) (c : Config) (at depth nest : ℕ) (stack marks locals mem : List ℕ) : Type 0 where
  pub place : c.place ≡ at
  pub sound : Sound s h c
  pub rep : Rep (with_stack c.state (whole_stack c)) stack depth locals mem
  pub many : length c.labels ≡ nest
  pub marked : Marked c.labels marks
  pub marks_long : length marks ≡ 3 * nest_limit + 1

-- some configuration is held
pub record Held (s : List ℕ) (at depth nest : ℕ) (stack marks locals mem : List ℕ) : Type 0 where
  pub valid : Valid s
  pub config : Config
  pub carries : Carries s valid.header config at depth nest stack marks locals mem

-- whatever the locals and the memory
pub record Stacked (s : List ℕ) (at depth nest : ℕ) (stack marks : List ℕ) : Type 0 where
  pub locals : List ℕ
  pub mem : List ℕ
  pub held : Held s at depth nest stack marks locals mem

-- and the results have their slots
pub record Going (s out : List ℕ) (at depth nest : ℕ) (stack marks locals mem : List ℕ) : Type 0 where
  pub held : Held s at depth nest stack marks locals mem
  pub slots : Slots held.valid.header.results out

-- ---- one instruction of those that are no ordinary ones: `end`, blocks and branches

abbrev pub turns_at : ℕ → Bool
turns_at g = eqb g 0 || ltb 24 g

-- such an instruction stands here
pub record Seen (s : List ℕ) (at group index block len : ℕ) : Type 0 where
  pub instr : Instr
  pub code : Code
  pub reads : Reads (get_or s 3 0) s at instr code len
  pub group_is : group ≡ group_of_code code
  pub index_is : index ≡ instr.index
  pub block_is : block ≡ instr.block
  pub turning : turns_at group ≡ true

-- ---- where it leads

-- to the next configuration, or out of the strip, whose results are the values from a slot on
pub data Led (s : List ℕ) (h : Header) (g : Stage) (at depth nest : ℕ) (stack marks locals mem : List ℕ) : Type 0 where
  leads_on : {d : Config} → g ≡ going d → Carries s h d at depth nest stack marks locals mem → Led s h g at depth nest stack marks locals mem
  leads_out : {vs : List Value} → g ≡ ended vs mem → at ≡ 0 → length vs ≡ length h.results → depth + length vs ≤ stack_limit → length stack ≡ stack_bytes
      → part (slot * length vs) (slot * depth) stack ≡ all_bytes vs
      → Led s h g at depth nest stack marks locals mem

-- a branch of this number from a state over these labels; the number that br_if asks is gone
pub record Leads (s : List ℕ) (h : Header) (σ : State) (ls : List Label) (index depth nest : ℕ) (stack marks locals mem : List ℕ) : Type 0 where
  pub rep : Rep (with_stack σ (σ.stack ++ under_all ls)) stack depth locals mem
  pub many : length ls ≡ nest
  pub marked : Marked ls marks
  pub marks_long : length marks ≡ 3 * nest_limit + 1
  pub frames : List Frame
  pub nested : Nested s h frames ls
  pub from : Config
  pub safe : Safe s h from (branch s h σ index ls)

pub record Branching (s : List ℕ) (index depth nest : ℕ) (stack marks : List ℕ) : Type 0 where
  pub valid : Valid s
  pub state : State
  pub labels : List Label
  pub locals : List ℕ
  pub mem : List ℕ
  pub leads : Leads s valid.header state labels index depth nest stack marks locals mem

-- whatever the state is
abbrev pub Branched : List ℕ → ℕ → ℕ → ℕ → List ℕ → List ℕ → ℕ → ℕ → ℕ → List ℕ → Type 0
Branched s index depth nest stack marks at' depth' nest' stack' =
    (v : Valid s) (σ : State) (ls : List Label) (locals mem : List ℕ) → Leads s v.header σ ls index depth nest stack marks locals mem
    → Led s v.header (branch s v.header σ index ls) at' depth' nest' stack' marks locals mem
