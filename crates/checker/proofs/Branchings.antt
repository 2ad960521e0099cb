-- br and br_if.
use Prim.Native.Nat.{ℕ, ◌+◌, ◌*◌, ◌≤◌, ◌<◌}
use mathlib.Core.Path.{◌≡◌, refl, ap, subst}
use mathlib.Core.Bool.{Bool, true, false}
use mathlib.Core.List.{List, [], ◌∷◌, ◌++◌, map, reverse, reverse-append}
use native.Mathlib.Omega.{arith}
use lib.ListN.{length}
use Rattle.std.specs.Prelude.{Some, None, Ok, Err}
use Rattle.std.specs.declared.option.Option.{Option}
use Rattle.std.specs.declared.result.Result.{Result}
use Rattle.card.specs.Card.{OPERAND, LABEL}
use Rattle.limits.specs.Limits.{stack_limit, result_limit}
use Rattle.operation.specs.Vector.{number}
use Rattle.opcode.specs.Kind.{Kind, i32, kind_byte}
use Rattle.opcode.specs.Table.{Br, BrIf, control}
use Rattle.instr.specs.declared.Instr.{Instr}
use Rattle.rules.specs.Typing.{Frame, holding, deadened, all_values, branch_kinds, Target, Has, all_known, Types, ordinary, branches, may_branch, Branches, br_branches, if_branches}
use Rattle.rules.proofs.Typings.{control-untyped, label-once}
use Rattle.rules.proofs.Sorts.{names-control, branches-plain}
use Rattle.checker.specs.declared.turns.State.{State}
use Rattle.checker.specs.Walk.{KindBytes, OpenBlocks, Framed}
use Rattle.checker.specs.Inner.Stack.{Top, Under, Applies, lacks, over, fits}
use Rattle.checker.specs.Inner.Blocks.{top_first, Labelled}
use Rattle.checker.specs.Inner.Judging.{brancher, Judges, no_label, untyped, too_deep, typed, at_depth}
use Rattle.checker.proofs.Unders.{part, under-below, under_none}
use Rattle.checker.proofs.Nests.{nested-as, frames-case, no_such, framed-top}

-- ---- br

br-needs : {ls : List Kind} {i : Instr} {f g : Frame} {fs fs' : List Frame} → Types ls i (control Br) (f ∷ fs) fs' → Target (f ∷ fs) i.index g → (below : List Kind) × Has f below (branch_kinds g)
br-needs (ordinary t h) l = absurd (control-untyped t refl)
br-needs {f = f} (branches {below} m h) l = (below, subst (λ (x : Frame). Has f below (branch_kinds x)) (label-once m l) h)

-- the rest of the block is dead
abbrev dead-on : ℕ → ℕ → Result State ℕ
dead-on nest floor = Ok (record { depth = floor; nest = nest; floor = floor; dead = true })

module _ {ls rs : List Kind} {i : Instr} {kinds blocks : List ℕ} {depth nest floor : ℕ} {dead : Bool} (takes : ℕ) (few : depth ≤ stack_limit) {r : Option ℕ}
    (under-it : (outer ins : List Kind) (f : Frame) → Top kinds depth floor dead outer f → top_first ins ≡ takes → Under f ins floor r) where
  lacks-br : {after : List ℕ} (f : Frame) (fs : List Frame) → Labelled (f ∷ fs) i.index takes
      → Framed rs kinds blocks depth nest floor dead (f ∷ fs) → r ≡ None → Judges ls rs i (control Br) (f ∷ fs) after blocks (Err OPERAND)
  lacks-br f fs g w z =
      let t = framed-top w in
      untyped (λ q. branches-plain br_branches q) (λ names. absurd (names-control names refl)) (λ b. (g.target, g.label))
      (λ fs' u. let x = br-needs u g.label in under_none (under-it (all_values fs) (branch_kinds g.target) f t g.takes_is) z x.0 x.1)

  does-br : (f : Frame) (fs : List Frame) → Labelled (f ∷ fs) i.index takes → Framed rs kinds blocks depth nest floor dead (f ∷ fs) → {base : ℕ} → r ≡ Some base → floor ≤ depth
      → Judges ls rs i (control Br) (f ∷ fs) kinds blocks (dead-on nest floor)
  does-br f fs g w z less =
      let t = framed-top w in
      let x = under-below (under-it (all_values fs) (branch_kinds g.target) f t g.takes_is) z in
      let none : floor + length {A = Kind} [] ≡ floor = omega arith in
      let held : KindBytes kinds floor (all_values fs ++ []) = subst (λ (n : ℕ). KindBytes kinds n (all_values fs ++ [])) none (part t (all_known {below = []} {ins = f.values} refl)) in
      typed (branches g.label x.1)
      (record {
        holds = held;
        nested = nested-as (deadened f) refl refl w.nested;
        within = record { blocks = w.within.blocks; values = omega (arith, held.many, less, few) };
      })

  pub branches-lacks : {after : List ℕ} {fs : List Frame} → Labelled fs i.index takes → Framed rs kinds blocks depth nest floor dead fs → r ≡ None
      → Judges ls rs i (control Br) fs after blocks (Err OPERAND)
  branches-lacks {after} g w z =
      frames-case (λ x. Labelled x i.index takes → Framed rs kinds blocks depth nest floor dead x → Judges ls rs i (control Br) x after blocks (Err OPERAND))
      w.nested (λ f rest y v. lacks-br f rest y v z) g w

  pub branches-done : {fs : List Frame} → Labelled fs i.index takes → Framed rs kinds blocks depth nest floor dead fs → {base : ℕ} → r ≡ Some base → floor ≤ depth
      → Judges ls rs i (control Br) fs kinds blocks (dead-on nest floor)
  branches-done g w z less =
      frames-case (λ x. Labelled x i.index takes → Framed rs kinds blocks depth nest floor dead x → Judges ls rs i (control Br) x kinds blocks (dead-on nest floor))
      w.nested (λ f rest y v. does-br f rest y v z less) g w

-- ---- br_if

if-needs : {ls : List Kind} {i : Instr} {f g : Frame} {fs fs' : List Frame} → Types ls i (control BrIf) (f ∷ fs) fs' → Target (f ∷ fs) i.index g
    → (below : List Kind) × Has f below (branch_kinds g ++ i32 ∷ [])
if-needs (ordinary t h) l = absurd (control-untyped t refl)
if-needs {f = f} (may_branch {below} m h) l = (below, subst (λ (x : Frame). Has f below (branch_kinds x ++ i32 ∷ [])) (label-once m l) h)

-- the condition is on top
over-condition : (ks : List Kind) (takes : ℕ) → top_first ks ≡ takes → top_first (ks ++ i32 ∷ []) ≡ takes * 256 + 0x7F
over-condition ks takes e =
    let turned : reverse (ks ++ i32 ∷ []) ≡ i32 ∷ reverse ks = reverse-append ks (i32 ∷ []) in
    let whole : top_first (ks ++ i32 ∷ []) ≡ number (map kind_byte (i32 ∷ reverse ks)) = ap (λ (x : List Kind). number (map kind_byte x)) turned in
    omega (arith, whole, e)

module _ {ls rs : List Kind} {i : Instr} {kinds after blocks : List ℕ} {depth nest floor : ℕ} {dead : Bool} (takes left-number : ℕ)
    (turned : (ks : List Kind) → length ks ≤ result_limit → top_first ks ≡ takes → number (map kind_byte ks) ≡ left-number) where
  module _ (f : Frame) (fs : List Frame) (g : Labelled (f ∷ fs) i.index takes) (w : Framed rs kinds blocks depth nest floor dead (f ∷ fs)) where
    if-by : {r : Result ℕ ℕ} → Applies (all_values fs) f (branch_kinds g.target ++ i32 ∷ []) (branch_kinds g.target) after r
        → Judges ls rs i (control BrIf) (f ∷ fs) after blocks (at_depth r nest floor dead)
    if-by (lacks never) =
        untyped (λ q. branches-plain if_branches q) (λ names. absurd (names-control names refl)) (λ b. (g.target, g.label))
        (λ fs' u. let x = if-needs u g.label in never x.0 x.1)
    if-by (over below h big) = too_deep (may_branch g.label h) big
    if-by (fits below h small held) =
        typed (may_branch g.label h)
        (record {
          holds = held;
          nested = subst (λ (x : Bool). OpenBlocks rs blocks nest floor x (holding f (below ++ branch_kinds g.target) ∷ fs)) (framed-top w).dead_is
              (nested-as (holding f (below ++ branch_kinds g.target)) refl refl w.nested);
          within = record { blocks = w.within.blocks; values = small };
        })

  pub may-branches : {fs : List Frame} {r : Result ℕ ℕ}
      → ((outer ins outs : List Kind) (f : Frame) → Top kinds depth floor dead outer f → top_first ins ≡ takes * 256 + 0x7F
      → number (map kind_byte outs) ≡ left-number → Applies outer f ins outs after r)
      → Labelled fs i.index takes → Framed rs kinds blocks depth nest floor dead fs → Judges ls rs i (control BrIf) fs after blocks (at_depth r nest floor dead)
  may-branches {r = r} applies g w =
      frames-case (λ x. Labelled x i.index takes → Framed rs kinds blocks depth nest floor dead x → Judges ls rs i
      (control BrIf) x after blocks (at_depth r nest floor dead))
      w.nested
      (λ f rest y v.
      if-by f rest y v
      (applies (all_values rest) (branch_kinds y.target ++ i32 ∷ []) (branch_kinds y.target) f (framed-top v)
      (over-condition (branch_kinds y.target) takes y.takes_is) (turned (branch_kinds y.target) y.few y.takes_is)))
      g w

-- ---- either

branches-of : (m : Bool) → Branches (control (brancher m))
branches-of true = if_branches
branches-of false = br_branches

pub jumps-nowhere : {ls rs : List Kind} {i : Instr} {kinds after blocks blocks' : List ℕ} {depth nest floor : ℕ} {dead : Bool} {fs : List Frame} (maybe : Bool)
    → Framed rs kinds blocks depth nest floor dead fs → nest < i.index → Judges ls rs i (control (brancher maybe)) fs after blocks' (Err LABEL)
jumps-nowhere {i = i} maybe w z = no_label (branches-of maybe) (no_such w.nested i.index z)
