-- What a typing says of the instruction that has it; an instruction is of one sort.
use Prim.Native.Nat.{ℕ, suc}
use mathlib.Core.Path.{◌≡◌, refl}
use mathlib.Core.List.{List, append-nil}
use native.Mathlib.Omega.{arith}
use lib.ListN.{length}
use Rattle.opcode.specs.Kind.{Kind}
use Rattle.opcode.specs.Table.{End, Control, Block, Loop, Br, BrIf, Plain, Code, plain, control}
use Rattle.instr.specs.declared.Instr.{Instr}
use Rattle.rules.specs.Typing.{Frame, all_values, Target, Local, Typed, by_signature, dropped, got, set, teed, Types, ordinary, branches, may_branch, opens_block}
use Rattle.rules.specs.Typing.{opens_loop, closes, Names, get_names, set_names, tee_names, Opens, block_opens, loop_opens, Branches, br_branches}
use Rattle.rules.specs.Typing.{if_branches, Ends}
use Rattle.rules.proofs.Typings.{end-untyped, control-untyped}

-- ---- sorts

pub opens-control : {c : Code} → Opens c → (k : Control) × (c ≡ control k)
opens-control block_opens = (Block, refl)
opens-control loop_opens = (Loop, refl)

pub branches-control : {c : Code} → Branches c → (k : Control) × (c ≡ control k)
branches-control br_branches = (Br, refl)
branches-control if_branches = (BrIf, refl)

pub names-control : {c : Code} {k : Control} → Names c → c ≡ control k → ⊥
names-control get_names e = let z : ◌≡◌ {A = ℕ} 0 1 = cc in omega arith
names-control set_names e = let z : ◌≡◌ {A = ℕ} 0 1 = cc in omega arith
names-control tee_names e = let z : ◌≡◌ {A = ℕ} 0 1 = cc in omega arith

pub end-nameless : {c : Code} → Names c → c ≡ plain End → ⊥
end-nameless get_names e = let z : ◌≡◌ {A = ℕ} 0 1 = cc in omega arith
end-nameless set_names e = let z : ◌≡◌ {A = ℕ} 0 1 = cc in omega arith
end-nameless tee_names e = let z : ◌≡◌ {A = ℕ} 0 1 = cc in omega arith

pub opens_plain : {c : Code} {p : Plain} → Opens c → c ≡ plain p → ⊥
opens_plain block_opens e = let z : ◌≡◌ {A = ℕ} 0 1 = cc in omega arith
opens_plain loop_opens e = let z : ◌≡◌ {A = ℕ} 0 1 = cc in omega arith

pub branches-plain : {c : Code} {p : Plain} → Branches c → c ≡ plain p → ⊥
branches-plain br_branches e = let z : ◌≡◌ {A = ℕ} 0 1 = cc in omega arith
branches-plain if_branches e = let z : ◌≡◌ {A = ℕ} 0 1 = cc in omega arith

opens-br : {c : Code} → Opens c → c ≡ control Br → ⊥
opens-br block_opens e = let z : ◌≡◌ {A = ℕ} 0 1 = cc in omega arith
opens-br loop_opens e = let z : ◌≡◌ {A = ℕ} 0 1 = cc in omega arith

opens-if : {c : Code} → Opens c → c ≡ control BrIf → ⊥
opens-if block_opens e = let z : ◌≡◌ {A = ℕ} 0 1 = cc in omega arith
opens-if loop_opens e = let z : ◌≡◌ {A = ℕ} 0 1 = cc in omega arith

pub opens-branches : {c d : Code} → Opens c → Branches d → c ≡ d → ⊥
opens-branches o br_branches e = opens-br o e
opens-branches o if_branches e = opens-if o e

-- ---- what is typed

-- what is typed and names a local, names one that is declared
declared-local : {ls ins outs : List Kind} {n : ℕ} {c : Code} → Typed ls n c ins outs → Names c → (k : Kind) × Local ls n k
declared-local (by_signature p) get_names = absurd (let z : ◌≡◌ {A = ℕ} 0 1 = cc in omega arith)
declared-local (by_signature p) set_names = absurd (let z : ◌≡◌ {A = ℕ} 0 1 = cc in omega arith)
declared-local (by_signature p) tee_names = absurd (let z : ◌≡◌ {A = ℕ} 0 1 = cc in omega arith)
declared-local dropped names = elim names [ ]
declared-local (got {k} l) get_names = (k, l)
declared-local (set {k} l) set_names = (k, l)
declared-local (teed {k} l) tee_names = (k, l)

module _ {ls : List Kind} {i : Instr} where
  pub typed-local : {c : Code} {fs fs' : List Frame} → Types ls i c fs fs' → Names c → (k : Kind) × Local ls i.index k
  typed-local (ordinary t x) names = declared-local t names
  typed-local (branches l x) names = absurd (names-control names refl)
  typed-local (may_branch l x) names = absurd (names-control names refl)
  typed-local opens_block names = absurd (names-control names refl)
  typed-local opens_loop names = absurd (names-control names refl)
  typed-local (closes x) names = absurd (end-nameless names refl)

  pub typed-label : {c : Code} {fs fs' : List Frame} → Types ls i c fs fs' → Branches c → (g : Frame) × Target fs i.index g
  typed-label (ordinary t x) b = absurd (control-untyped t (branches-control b).1)
  typed-label (branches {g = g} l x) b = (g, l)
  typed-label (may_branch {g = g} l x) b = (g, l)
  typed-label opens_block b = absurd (opens-branches block_opens b refl)
  typed-label opens_loop b = absurd (opens-branches loop_opens b refl)
  typed-label (closes x) b = absurd (branches-plain b refl)

  -- a block more, and no value
  pub typed-opens : {c : Code} {fs fs' : List Frame} → Types ls i c fs fs' → Opens c → (length fs' ≡ suc (length fs)) × (all_values fs' ≡ all_values fs)
  typed-opens (ordinary t x) o = absurd (control-untyped t (opens-control o).1)
  typed-opens (branches l x) o = absurd (opens-branches o br_branches refl)
  typed-opens (may_branch l x) o = absurd (opens-branches o if_branches refl)
  typed-opens (opens_block {fs}) o = (refl, append-nil (all_values fs))
  typed-opens (opens_loop {fs}) o = (refl, append-nil (all_values fs))
  typed-opens (closes x) o = absurd (opens_plain o refl)

  pub typed-ends : {c : Code} {fs fs' : List Frame} → Types ls i c fs fs' → c ≡ plain End → Ends fs
  typed-ends (ordinary t x) e = absurd (end-untyped t e)
  typed-ends (branches l x) e = absurd (branches-plain br_branches e)
  typed-ends (may_branch l x) e = absurd (branches-plain if_branches e)
  typed-ends opens_block e = absurd (opens_plain block_opens e)
  typed-ends opens_loop e = absurd (opens_plain loop_opens e)
  typed-ends (closes x) e = x

  -- after the strip's own `end` nothing is typed
  pub typed-inner : {c : Code} {fs fs' : List Frame} → Types ls i c fs fs' → c ≡ plain End → length fs ≡ 1 → ⊥
  typed-inner (ordinary t x) e l = end-untyped t e
  typed-inner (branches l' x) e l = branches-plain br_branches e
  typed-inner (may_branch l' x) e l = branches-plain if_branches e
  typed-inner opens_block e l = opens_plain block_opens e
  typed-inner opens_loop e l = opens_plain loop_opens e
  typed-inner (closes x) e l = omega arith

  -- what begins a block is typed
  pub opens-typed : {c : Code} (fs : List Frame) → Opens c → (fs' : List Frame) × Types ls i c fs fs'
  opens-typed fs block_opens = (_, opens_block)
  opens-typed fs loop_opens = (_, opens_loop)
