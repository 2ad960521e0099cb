-- Instructions that do not go by blocks.
use Prim.Native.Nat.{ℕ}
use mathlib.Core.Path.{refl, subst}
use mathlib.Core.Bool.{Bool, false}
use mathlib.Core.List.{List, [], ◌∷◌, ◌++◌}
use Rattle.std.specs.declared.result.Result.{Result}
use Rattle.opcode.specs.Kind.{Kind}
use Rattle.opcode.specs.Table.{Block, Loop, Br, BrIf, Code}
use Rattle.instr.specs.declared.Instr.{Instr}
use Rattle.rules.specs.Typing.{Frame, holding, all_values, Has, all_known, Typed, Types, ordinary, branches, may_branch, opens_block, opens_loop, closes}
use Rattle.rules.proofs.Sorts.{typed-local, branches-control}
use Rattle.checker.specs.Inner.Stack.{Top}
use Rattle.checker.specs.Walk.{OpenBlocks, Framed}
use Rattle.checker.specs.Inner.Judging.{Ordinary, Gives, undeclared_local, lacking, overfull, does, Judges, no_local, untyped, too_deep, typed, at_depth}
use Rattle.checker.proofs.Nests.{nested-as, frames-case, framed-top}

only-ordinary : {ls : List Kind} {i : Instr} {c : Code} {f : Frame} {fs fs' : List Frame} → Ordinary c
    → ((ins outs below : List Kind) → Typed ls i.index c ins outs → Has f below ins → ⊥) → Types ls i c (f ∷ fs) fs' → ⊥
only-ordinary o g (ordinary {ins = ins} {outs} {below} t h) = g ins outs below t h
only-ordinary o g (branches l h) = o.not_control Br refl
only-ordinary o g (may_branch l h) = o.not_control BrIf refl
only-ordinary o g opens_block = o.not_control Block refl
only-ordinary o g opens_loop = o.not_control Loop refl
only-ordinary o g (closes h) = o.not_end refl

module _ {ls : List Kind} {i : Instr} {c : Code} (o : Ordinary c) where
  module _ {rs : List Kind} {kinds after blocks : List ℕ} {depth nest floor : ℕ} {dead : Bool} where
    straight-by : {f : Frame} {fs : List Frame} {r : Result ℕ ℕ} → Framed rs kinds blocks depth nest floor dead (f ∷ fs) → Gives ls i.index c (all_values fs) f after r
        → Judges ls rs i c (f ∷ fs) after blocks (at_depth r nest floor dead)
    straight-by w (undeclared_local names never) = no_local names never
    straight-by w (lacking {ins = ins} t never) =
        untyped o.not_end (typed-local {ls = ls} {i = i} (ordinary {below = []} {f = record { loop = false; results = []; values = ins; dead = false }} {fs = []} t (all_known refl)))
        (λ b. let x = branches-control b in absurd (o.not_control x.0 x.1)) (λ fs' u. only-ordinary o never u)
    straight-by w (overfull below t h big) = too_deep (ordinary {below = below} t h) big
    straight-by {f} {fs} w (does {outs = outs} below t h small g) =
        typed (ordinary {below = below} t h)
        (record {
          holds = g;
          nested = subst (λ (x : Bool). OpenBlocks rs blocks nest floor x (holding f (below ++ outs) ∷ fs)) (framed-top w).dead_is (nested-as (holding f (below ++ outs)) refl refl w.nested);
          within = record { blocks = w.within.blocks; values = small };
        })

    pub straight : {fs : List Frame} {r : Result ℕ ℕ} → Framed rs kinds blocks depth nest floor dead fs
        → ((outer : List Kind) (f : Frame) → Top kinds depth floor dead outer f → Gives ls i.index c outer f after r) → Judges ls rs i c fs after blocks (at_depth r nest floor dead)
    straight {r = r} w g =
        frames-case (λ x. Framed rs kinds blocks depth nest floor dead x → Judges ls rs i c x after blocks (at_depth r nest floor dead))
        w.nested (λ f rest v. straight-by v (g (all_values rest) f (framed-top v))) w
