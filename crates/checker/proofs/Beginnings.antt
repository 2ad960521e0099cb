-- block and loop.
use Prim.Native.Nat.{ℕ, suc, ◌+◌, ◌<◌}
use mathlib.Core.Path.{◌≡◌, refl, sym, ap, subst, ◌∙◌}
use mathlib.Core.Bool.{Bool, true, false}
use mathlib.Core.List.{List, [], ◌∷◌, ◌++◌, append-nil}
use native.Mathlib.Omega.{arith}
use lib.ListN.{length, get_or, set}
use lib.Seq.{get_or-set_same}
use Rattle.std.specs.Prelude.{Ok, Err}
use Rattle.card.specs.Card.{NEST}
use Rattle.limits.specs.Limits.{nest_limit}
use Rattle.opcode.specs.Kind.{Kind}
use Rattle.opcode.specs.BlockType.{is_block_type, block_results}
use Rattle.opcode.specs.Table.{control}
use Rattle.instr.specs.declared.Instr.{Instr}
use Rattle.rules.specs.Typing.{Frame, opened, all_values, Types, opens_block, opens_loop, Opens, block_opens, loop_opens}
use Rattle.checker.specs.Walk.{KindBytes, word, OpenBlocks, block, Framed}
use Rattle.checker.specs.Inner.Judging.{opener, Judges, too_nested, typed}
use Rattle.checker.proofs.Nests.{nested-many, nested-keeps, frames-case}

opens_of : (l : Bool) → Opens (control (opener l))
opens_of true = loop_opens
opens_of false = block_opens

opens-types : {ls : List Kind} {i : Instr} {fs : List Frame} (l : Bool) → Types ls i (control (opener l)) fs (opened l (block_results i.block) ∷ fs)
opens-types true = opens_loop
opens-types false = opens_block

module _ {rs : List Kind} {kinds blocks : List ℕ} {depth nest floor : ℕ} {dead : Bool} (loop : Bool) where
  pub begins-none : {ls : List Kind} {i : Instr} {fs : List Frame} {after : List ℕ} → Framed rs kinds blocks depth nest floor dead fs → nest ≡ nest_limit
      → Judges ls rs i (control (opener loop)) fs kinds after (Err NEST)
  begins-none w z = too_nested (opens_of loop) (omega (arith, nested-many w.nested, z))

  module _ (type b : ℕ) (less : nest < nest_limit) (long : length blocks ≡ nest_limit) (is : b ≡ word floor type loop dead) (is-type : is_block_type type ≡ true) where
    begins-in : (f : Frame) (fs : List Frame) → Framed rs kinds blocks depth nest floor dead (f ∷ fs)
        → Framed rs kinds (set blocks nest b) depth (nest + 1) depth false (opened loop (block_results type) ∷ f ∷ fs)
    begins-in f fs w =
        let same : all_values (f ∷ fs) ++ [] ≡ all_values (f ∷ fs) = append-nil (all_values (f ∷ fs)) in
        let more : suc nest ≡ nest + 1 = omega arith in
        let here : get_or (set blocks nest b) nest 0 ≡ word floor type loop dead = get_or-set_same blocks nest b 0 (omega (arith, less, long)) ∙ is in
        let now : OpenBlocks rs (set blocks nest b) (suc nest) (length (all_values (f ∷ fs))) false (opened loop (block_results type) ∷ f ∷ fs) =
        block type (nested-keeps nest b (omega arith) w.nested) here is-type refl in
        record {
          holds = subst (KindBytes kinds depth) (sym same) w.holds;
          nested =
              subst (λ (k : ℕ). OpenBlocks rs (set blocks nest b) (nest + 1) k false (opened loop (block_results type) ∷ f ∷ fs)) w.holds.many
              (subst (λ (k : ℕ). OpenBlocks rs (set blocks nest b) k (length (all_values (f ∷ fs))) false (opened loop (block_results type) ∷ f ∷ fs)) more now);
          within = record { blocks = omega (arith, less, nested-many w.nested); values = omega (arith, ap length same, w.within.values) };
        }

    pub begins : {ls : List Kind} {i : Instr} {fs : List Frame} → i.block ≡ type → Framed rs kinds blocks depth nest floor dead fs
        → Judges ls rs i (control (opener loop)) fs kinds (set blocks nest b) (Ok (record { depth = depth; nest = nest + 1; floor = depth; dead = false }))
    begins {ls} {i} {fs} e w =
        frames-case (λ x. Framed rs kinds blocks depth nest floor dead x → Judges ls rs i (control (opener loop)) x kinds (set blocks nest b) (Ok (record { depth = depth; nest = nest + 1; floor = depth; dead = false })))
        w.nested
        (λ f rest v.
        typed (opens-types loop)
        (subst (λ (x : ℕ). Framed rs kinds (set blocks nest b) depth (nest + 1) depth false (opened loop (block_results x) ∷ f ∷ rest)) (sym e) (begins-in f rest v)))
        w
