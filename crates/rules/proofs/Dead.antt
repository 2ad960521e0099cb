-- Code after a `br` is typed exactly as Core's any-kind stack has it (02, C-13; Core 2.0, 3.3.8, 3.3.9): by what some whole stack lets it do, and no
-- more; and what is known after it is what every such stack leaves. In live code nothing is any.
use mathlib.Core.Path.{◌≡◌, refl, ap, sym, ◌∙◌, subst}
use mathlib.Core.Bool.{Bool, true, false}
use mathlib.Core.List.{List, [], ◌∷◌, ◌++◌, append_assoc}
use mathlib.Core.Logic.{◌↔◌}
use Rattle.opcode.specs.Kind.{Kind, i32}
use Rattle.opcode.specs.BlockType.{block_results}
use Rattle.opcode.specs.Table.{End, Block, Loop, Br, BrIf, Code, plain, control}
use Rattle.instr.specs.declared.Instr.{Instr}
use Rattle.rules.specs.Typing.{Frame, opened, holding, deadened, branch_kinds, Has, all_known, Types, ordinary, branches, may_branch, opens_block}
use Rattle.rules.specs.Typing.{opens_loop, closes, Ends, ends}
use Rattle.rules.specs.Core.{over, Fills, AllFill, each, Typable, Possible, Allows, ordinary as plainly, br, br_if, block, loop, end}
use Rattle.rules.proofs.Typings.{live-has}
use Rattle.rules.proofs.Filling.{no_front, taken, given, held, filled, to-frame, to-stack, after-br, fresh}

-- ---- `end`, a block's and the strip's

pub ends-given : {f : Frame} {fs : List Frame} → Ends (f ∷ fs) → (g : Frame) × Fills f g × (g.values ≡ g.results)
ends-given {f} (ends x) = let k = given [] (λ l. refl) x in (over k.under f, filled k.under k.none_live, k.has)

pub ends-taken : {f g : Frame} {fs : List Frame} → Fills f g → g.values ≡ g.results → Ends (f ∷ fs)
ends-taken {f} w e =
    let k = taken [] f.results w (e ∙ ap (λ (x : Frame). x.results) w.whole) in
    ends (subst (λ (ks : List Kind). Has f ks f.results) (no_front k.under k.below (sym k.left)).1 k.has)

pub ends-exact : {f : Frame} {fs : List Frame} → Ends (f ∷ fs) ↔ ((g : Frame) × Fills f g × (g.values ≡ g.results))
ends-exact = (ends-given, λ it. ends-taken it.1 it.2)

-- ---- one instruction

-- no more than Core allows: to whatever the frames after it stand for, something leads that the frames before it stand for
pub dead-given : {ls : List Kind} {i : Instr} {c : Code} {fs fs' gs' : List Frame} → Types ls i c fs fs' → AllFill fs' gs' → Possible ls i c fs gs'
dead-given {ls} {i} {c} (ordinary {ins = ins} {outs} {below} {f} {fs} t x) (each {gs = gs} w ws) =
    let k = given w.under w.none_live x in
    record {
      before = over k.under f ∷ gs;
      fill = each (filled k.under k.none_live) ws;
      allowed =
          subst (λ (y : Frame). Allows ls i c (over k.under f ∷ gs) (y ∷ gs))
          (ap (holding (over k.under f)) (append_assoc w.under below outs) ∙ sym w.whole)
          (plainly (w.under ++ below) t k.has);
    }
dead-given {ls} {i} (branches {below = below} {f = f} {fs = fs} l x) (each {gs = gs} w ws) =
    let k = given [] (λ l. refl) x in
    let here : AllFill (f ∷ fs) (over k.under f ∷ gs) = each (filled k.under k.none_live) ws in
    let m = to-stack here l in
    record {
      before = over k.under f ∷ gs;
      fill = here;
      allowed =
          subst (λ (y : Frame). Allows ls i (control Br) (over k.under f ∷ gs) (y ∷ gs)) (sym w.whole)
          (br below (w.under ++ []) m.1 (k.has ∙ ap (λ (ks : List Kind). below ++ ks) (sym m.2)));
    }
dead-given {ls} {i} (may_branch {below = below} {f} {g} {fs} l x) (each {gs = gs} w ws) =
    let k = given w.under w.none_live x in
    let here : AllFill (f ∷ fs) (over k.under f ∷ gs) = each (filled k.under k.none_live) ws in
    let m = to-stack here l in
    record {
      before = over k.under f ∷ gs;
      fill = here;
      allowed =
          subst (λ (y : Frame). Allows ls i (control BrIf) (over k.under f ∷ gs) (y ∷ gs))
          (ap (holding (over k.under f)) (ap (λ (ks : List Kind). (w.under ++ below) ++ ks) m.2 ∙ append_assoc w.under below (branch_kinds g))
          ∙ sym w.whole)
          (br_if (w.under ++ below) m.1 (k.has ∙ ap (λ (ks : List Kind). (w.under ++ below) ++ (ks ++ i32 ∷ [])) (sym m.2)));
    }
dead-given {ls} {i} opens_block (each {gs = gs} w ws) =
    record { before = gs; fill = ws; allowed = subst (λ (y : Frame). Allows ls i (control Block) gs (y ∷ gs)) (sym (fresh w)) block }
dead-given {ls} {i} opens_loop (each {gs = gs} w ws) =
    record { before = gs; fill = ws; allowed = subst (λ (y : Frame). Allows ls i (control Loop) gs (y ∷ gs)) (sym (fresh w)) loop }
dead-given {ls} {i} (closes {f = f} {g} x) (each {gs = gs} w ws) =
    let k = ends-given x in
    record {
      before = k.0 ∷ over w.under g ∷ gs;
      fill = each k.1 (each (filled w.under w.none_live) ws);
      allowed =
          subst (λ (y : Frame). Allows ls i (plain End) (k.0 ∷ over w.under g ∷ gs) (y ∷ gs))
          (ap (holding (over w.under g))
          (ap (λ (x : Frame). (w.under ++ g.values) ++ x.results) k.1.whole ∙ append_assoc w.under g.values f.results)
          ∙ sym w.whole)
          (end k.2);
    }

-- all that Core allows: from whatever the frames stand for, and to what the frames after it stand for
pub dead-taken : {ls : List Kind} {i : Instr} {c : Code} {fs gs gs' : List Frame} → AllFill fs gs → Allows ls i c gs gs' → Typable ls i c fs gs'
dead-taken (each {f = f} {fs = fs} w ws) (plainly {ins = ins} {outs} v t e) =
    let k = taken v ins w e in
    record {
      after = holding f (k.below ++ outs) ∷ fs;
      typed = ordinary t k.has;
      fill = each (held k.under k.below w k.left refl k.none_live) ws;
    }
dead-taken (each {f = f} {fs = fs} w ws) (br {g = t} v u l e) =
    let m = to-frame (each w ws) l in
    let k = taken v (branch_kinds t) w e in
    record {
      after = deadened f ∷ fs;
      typed = branches m.1 (subst (λ (ks : List Kind). Has f k.below ks) (sym m.2) k.has);
      fill = each (after-br u w) ws;
    }
dead-taken (each {f = f} {fs = fs} w ws) (br_if {g = t} v l e) =
    let m = to-frame (each w ws) l in
    let k = taken v (branch_kinds t ++ i32 ∷ []) w e in
    record {
      after = holding f (k.below ++ branch_kinds m.0) ∷ fs;
      typed = may_branch m.1 (subst (λ (ks : List Kind). Has f k.below (ks ++ i32 ∷ [])) (sym m.2) k.has);
      fill = each (held k.under k.below w k.left (sym m.2) k.none_live) ws;
    }
dead-taken {i = i} {fs = fs} ws block =
    record { after = opened false (block_results i.block) ∷ fs; typed = opens_block; fill = each (filled [] (λ l. refl)) ws }
dead-taken {i = i} {fs = fs} ws loop =
    record { after = opened true (block_results i.block) ∷ fs; typed = opens_loop; fill = each (filled [] (λ l. refl)) ws }
dead-taken (each {f = f} w (each {f = f'} {fs = fs} w' ws)) (end e) =
    record {
      after = holding f' (f'.values ++ f.results) ∷ fs;
      typed = closes (ends-taken w e);
      fill = each (held w'.under f'.values w' (ap (λ (x : Frame). x.values) w'.whole) (ap (λ (x : Frame). x.results) w.whole) w'.none_live) ws;
    }

-- DEAD CODE IS TYPED AS CORE HAS IT: by what some stack that the frames stand for lets it do; and what that may leave is what the frames after it
-- stand for
pub dead-exact : {ls : List Kind} {i : Instr} {c : Code} {fs gs' : List Frame} → Typable ls i c fs gs' ↔ Possible ls i c fs gs'
dead-exact = (λ t. dead-given t.typed t.fill, λ p. dead-taken p.fill p.allowed)

-- ---- live code

-- IN LIVE CODE NOTHING IS ANY: a frame stands for itself alone
pub live-alone : {f g : Frame} → f.dead ≡ false → Fills f g → g ≡ f
live-alone {f} l w =
    w.whole ∙ ap (λ (u : List Kind). over u f) (w.none_live l)
    ∙ ap (λ (d : Bool). record { loop = f.loop; results = f.results; values = f.values; dead = d }) (sym l)

live-ends : {f : Frame} {fs : List Frame} → f.dead ≡ false → Ends (f ∷ fs) → f.values ≡ f.results
live-ends l (ends x) = live-has l x

module _ {ls : List Kind} {i : Instr} where
  live-given : {c : Code} {f : Frame} {fs fs' : List Frame} → f.dead ≡ false → (c ≡ control Br → ⊥) → Types ls i c (f ∷ fs) fs' → Allows ls i c (f ∷ fs) fs'
  live-given l n (ordinary {below = below} t x) = plainly below t (live-has l x)
  live-given l n (branches t x) = absurd (n refl)
  live-given l n (may_branch {below = below} t x) = br_if below t (live-has l x)
  live-given l n opens_block = block
  live-given l n opens_loop = loop
  live-given l n (closes x) = end (live-ends l x)

  live-taken : {c : Code} {fs fs' : List Frame} → (c ≡ control Br → ⊥) → Allows ls i c fs fs' → Types ls i c fs fs'
  live-taken n (plainly below t e) = ordinary {below = below} t (all_known e)
  live-taken n (br below u t e) = absurd (n refl)
  live-taken n (br_if below t e) = may_branch {below = below} t (all_known e)
  live-taken n block = opens_block
  live-taken n loop = opens_loop
  live-taken n (end e) = closes (ends (all_known e))

  -- so it is typed by its known values, whatever is dead around it
  pub live-exact : {c : Code} {f : Frame} {fs fs' : List Frame} → f.dead ≡ false → (c ≡ control Br → ⊥)
      → Types ls i c (f ∷ fs) fs' ↔ Allows ls i c (f ∷ fs) fs'
  live-exact l n = (live-given l n, live-taken n)
