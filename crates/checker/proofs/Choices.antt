-- Which instruction it is, by its group.
use Prim.Native.Nat.{ℕ, ◌≤◌, ◌<◌}
use mathlib.Core.Path.{◌≡◌, refl, sym, ap, subst, ◌∙◌}
use mathlib.Core.Bool.{Bool, true, false, ◌&&◌}
use mathlib.Core.List.{List}
use mathlib.Core.Logic.{◌⊎◌, inl, inr}
use native.Mathlib.Nat.{eq-or-lt_of_le}
use native.Mathlib.Omega.{arith}
use borrow.Author.Tests.{ne_eqb}
use lib.Dec.{eqb}
use lib.ListN.{drop}
use Rattle.std.specs.declared.result.Result.{Result}
use Rattle.opcode.specs.Kind.{Kind}
use Rattle.opcode.specs.BlockType.{is_block_type}
use Rattle.opcode.specs.Table.{End, Control, Block, Loop, Br, BrIf, Code, plain, control, carried}
use Rattle.opcode.specs.Number.{group_of_code}
use Rattle.opcode.specs.Entry.{entry_of, group_in}
use Rattle.opcode.proofs.Entries.{group-in}
use Rattle.opcode.proofs.Groups.{by-group, row-group-small}
use Rattle.instr.specs.declared.Instr.{Instr}
use Rattle.rules.specs.Typing.{Frame, Opens, block_opens, loop_opens, br_branches, if_branches}
use Rattle.rules.proofs.Sorts.{opens-control, opens-branches}
use Rattle.checker.specs.declared.turns.State.{State}
use Rattle.checker.specs.Walk.{KindBytes, Framed}
use Rattle.checker.specs.Inner.Judging.{opener, brancher, Ordinary, Judges, Faces, TellsStraight}

module _ {s : List ℕ} {locals results entry index : ℕ} {kinds blocks : List ℕ} {depth nest floor : ℕ} {dead : Bool} {c : Code} {i : Instr} {ls rs : List Kind} {fs : List Frame}
    (x : Faces s locals results entry index kinds blocks depth nest floor dead c i ls rs fs) {g : ℕ} (told : g ≡ group_in entry) where
  of-group : {k : ℕ} → g ≡ k → group_of_code c ≡ k
  of-group e = sym (group-in (carried c) x.row) ∙ sym told ∙ e

  module _ {kinds' blocks' : List ℕ} {r : Result State ℕ} where
    pub as-end : g ≡ 0 → Judges ls rs i (plain End) fs kinds' blocks' r → Judges ls rs i c fs kinds' blocks' r
    as-end e j = by-group (λ y. Judges ls rs i y fs kinds' blocks' r) 0 j c (of-group e)

    as-block : g ≡ 25 → (index ≡ i.block → is_block_type i.block ≡ true → Judges ls rs i (control Block) fs kinds' blocks' r)
        → Judges ls rs i c fs kinds' blocks' r
    as-block e j =
        let t = x.types (by-group Opens 25 block_opens c (of-group e)) in
        by-group (λ y. Judges ls rs i y fs kinds' blocks' r) 25 (j t.0 t.1) c (of-group e)

    as-loop : g ≡ 26 → (index ≡ i.block → is_block_type i.block ≡ true → Judges ls rs i (control Loop) fs kinds' blocks' r)
        → Judges ls rs i c fs kinds' blocks' r
    as-loop e j =
        let t = x.types (by-group Opens 26 loop_opens c (of-group e)) in
        by-group (λ y. Judges ls rs i y fs kinds' blocks' r) 26 (j t.0 t.1) c (of-group e)

    as-br : g ≡ 27 → (index ≡ i.index → Judges ls rs i (control Br) fs kinds' blocks' r)
        → Judges ls rs i c fs kinds' blocks' r
    as-br e j =
        let is = by-group (λ y. y ≡ control Br) 27 refl c (of-group e) in
        by-group (λ y. Judges ls rs i y fs kinds' blocks' r) 27 (j (x.names (λ o. opens-branches o br_branches is))) c (of-group e)

    as-br-if : g ≡ 28 → (index ≡ i.index → Judges ls rs i (control BrIf) fs kinds' blocks' r)
        → Judges ls rs i c fs kinds' blocks' r
    as-br-if e j =
        let is = by-group (λ y. y ≡ control BrIf) 28 refl c (of-group e) in
        by-group (λ y. Judges ls rs i y fs kinds' blocks' r) 28 (j (x.names (λ o. opens-branches o if_branches is))) c (of-group e)

    -- block or loop
    pub as-opener : 25 ≤ g → g < 27 → (index ≡ i.block → is_block_type i.block ≡ true → Judges ls rs i (control (opener (eqb g 26))) fs kinds' blocks' r)
        → Judges ls rs i c fs kinds' blocks' r
    as-opener l h j = by (eq-or-lt_of_le l)
      where
        by : (25 ≡ g) ⊎ (25 < g) → Judges ls rs i c fs kinds' blocks' r
        by (inl e) = as-block (sym e) (λ a b. subst (λ (m : ℕ). Judges ls rs i (control (opener (eqb m 26))) fs kinds' blocks' r) (sym e) (j a b))
        by (inr m) =
            let e : g ≡ 26 = omega (arith, m, h) in
            as-loop e (λ a b. subst (λ (n : ℕ). Judges ls rs i (control (opener (eqb n 26))) fs kinds' blocks' r) e (j a b))

    -- br or br_if
    pub as-brancher : 27 ≤ g → (index ≡ i.index → Judges ls rs i (control (brancher (eqb g 28))) fs kinds' blocks' r)
        → Judges ls rs i c fs kinds' blocks' r
    as-brancher l j = by (eq-or-lt_of_le l)
      where
        last : (28 ≡ g) ⊎ (28 < g) → g ≡ 28
        last (inl e) = sym e
        last (inr m) =
            let small = row-group-small (carried c) in
            let e : group_of_code c ≡ 29 = omega (arith, m, small, of-group refl) in
            absurd (by-group (λ y. ⊥) 29 tt c e)

        by : (27 ≡ g) ⊎ (27 < g) → Judges ls rs i c fs kinds' blocks' r
        by (inl e) = as-br (sym e) (λ a. subst (λ (m : ℕ). Judges ls rs i (control (brancher (eqb m 28))) fs kinds' blocks' r) (sym e) (j a))
        by (inr m) =
            let e : g ≡ 28 = last (eq-or-lt_of_le m) in
            as-br-if e (λ a. subst (λ (n : ℕ). Judges ls rs i (control (brancher (eqb n 28))) fs kinds' blocks' r) e (j a))

  module _ (no_end : g ≡ 0 → ⊥) (below : g < 25) where
    its : (d : Code) → c ≡ d → g ≡ group_of_code d
    its d e = told ∙ group-in (carried c) x.row ∙ ap group_of_code e

    never-control : (k : Control) → c ≡ control k → ⊥
    never-control Block e = omega (arith, below, its (control Block) e)
    never-control Loop e = omega (arith, below, its (control Loop) e)
    never-control Br e = omega (arith, below, its (control Br) e)
    never-control BrIf e = omega (arith, below, its (control BrIf) e)

    pub is-ordinary : Ordinary c
    is-ordinary = record { not_end = λ e. no_end (its (plain End) e); not_control = never-control }

    pub named : index ≡ i.index
    named = x.names (λ o. let k = opens-control o in never-control k.0 k.1)

-- an ordinary one is judged as such
pub straight-judges : {s : List ℕ} {locals results entry index : ℕ} {kinds blocks kinds' : List ℕ} {depth nest floor : ℕ} {dead : Bool} {r : Result State ℕ}
    → (0 < group_in entry) × (group_in entry < 25)
    → ((c : Code) (i : Instr) (ls rs : List Kind) (fs : List Frame) (blocks : List ℕ) → entry ≡ entry_of (carried c) → Ordinary c → index ≡ i.index
    → KindBytes (drop 8 s) locals ls → Framed rs kinds blocks depth nest floor dead fs → Judges ls rs i c fs kinds' blocks r)
    → (c : Code) (i : Instr) (ls rs : List Kind) (fs : List Frame) → Faces s locals results entry index kinds blocks depth nest floor dead c i ls rs fs
    → Judges ls rs i c fs kinds' blocks r
straight-judges {entry = entry} {blocks = blocks} g j c i ls rs fs x =
    let some : group_in entry ≡ 0 → ⊥ = λ e. omega (arith, e, g.0) in
    j c i ls rs fs blocks x.row (is-ordinary x refl some g.1) (named x refl some g.1) x.locals_are x.framed

-- and is no `end`
pub straight-other : (entry nest : ℕ) → 0 < group_in entry → (eqb nest 0 && eqb (group_in entry) 0) ≡ false
straight-other entry nest l = ap (λ (x : Bool). eqb nest 0 && x) (ne_eqb (group_in entry) 0 (λ e. omega (arith, e, l))) ∙ and-false (eqb nest 0)
  where
    and-false : (b : Bool) → (b && false) ≡ false
    and-false true = refl
    and-false false = refl

-- another goes by blocks
pub as-turn : {entry : ℕ} {r : Bool} → r ≡ false → TellsStraight entry r → TellsStraight entry false
as-turn {entry} e t = subst (TellsStraight entry) e t
