-- `end` of a block.
use Prim.Native.Nat.{ℕ, ◌+◌, ◌-◌, ◌≤◌, ◌<◌}
use mathlib.Core.Path.{◌≡◌, refl, sym, ap, subst, ◌∙◌}
use mathlib.Core.Bool.{Bool}
use mathlib.Core.List.{List, [], ◌∷◌, ◌++◌, map, append-nil, append_assoc}
use native.Mathlib.Omega.{arith}
use lib.ListN.{length}
use Rattle.std.specs.Prelude.{Some, Err}
use Rattle.std.specs.declared.option.Option.{Option}
use Rattle.std.specs.declared.result.Result.{Result}
use Rattle.card.specs.Card.{RESULT}
use Rattle.limits.specs.Limits.{stack_limit}
use Rattle.operation.specs.Vector.{number}
use Rattle.opcode.specs.Kind.{Kind, kind_byte}
use Rattle.opcode.specs.BlockType.{block_results}
use Rattle.opcode.specs.Table.{End, plain}
use Rattle.instr.specs.declared.Instr.{Instr}
use Rattle.rules.specs.Typing.{Frame, holding, all_values, Has, all_known, closes, Ends, ends}
use Rattle.rules.proofs.Typings.{has-once}
use Rattle.checker.specs.Walk.{KindBytes, OpenBlocks, Framed}
use Rattle.checker.specs.Inner.Stack.{Top, Under, under, missing, Leaves, too_many, left}
use Rattle.checker.specs.Inner.Blocks.{top_first}
use Rattle.checker.specs.Inner.Judging.{Judges, no_results, too_deep, typed, at_depth}
use Rattle.checker.proofs.Unders.{part, under-below}
use Rattle.checker.proofs.Words.{type_up}
use Rattle.checker.proofs.Nests.{nested-as, Closing, nested-dead, framed-top}

-- it has its results, or not
module _ {top : Frame} {floor : ℕ} where
  pub ends-not : {r : Option ℕ} {fs : List Frame} → Under top top.results floor r → (r ≡ Some floor → ⊥) → Ends (top ∷ fs) → ⊥
  ends-not (under below h') z (ends h) =
      let same : length {A = Kind} [] ≡ length below = ap length (has-once refl h h') in
      let here : floor + length below ≡ floor = omega (arith, same) in
      z (ap (λ (n : ℕ). Some n) here)
  ends-not (missing never) z (ends h) = never [] h

  pub ends-here : {r : Option ℕ} → Under top top.results floor r → r ≡ Some floor → Has top [] top.results
  ends-here u z = let it = under-below u z in none it.0 it.1 (omega (arith, it.2))
    where
      none : (below : List Kind) → Has top below top.results → length below ≡ 0 → Has top [] top.results
      none [] h e = h
      none (k ∷ below) h e = absurd (let never : ⊥ = omega arith in never)

module _ {rs : List Kind} {kinds blocks : List ℕ} {depth nest floor : ℕ} {dead : Bool} {fs : List Frame}
    (w : Framed rs kinds blocks depth nest floor dead fs) (k : Closing rs blocks nest floor dead fs) where
  framed-here : Framed rs kinds blocks depth nest floor dead (k.top ∷ k.next ∷ k.rest)
  framed-here = subst (Framed rs kinds blocks depth nest floor dead) k.frames w

  -- the word's results are its own
  pub results-number : (r : ℕ) → r ≡ top_first (block_results k.type) → (top_first k.top.results ≡ r) × (number (map kind_byte k.top.results) ≡ r)
  results-number r e =
      (ap top_first k.results_are ∙ sym e, ap (λ (x : List Kind). number (map kind_byte x)) k.results_are ∙ type_up k.type k.is-type ∙ sym e)

  pub closing-top : Top kinds depth floor dead (all_values (k.next ∷ k.rest)) k.top
  closing-top = framed-top framed-here

  pub closing-held : KindBytes kinds floor (all_values (k.next ∷ k.rest))
  closing-held =
      let t = closing-top in
      let none : floor + length {A = Kind} [] ≡ floor = omega arith in
      let same = append-nil (all_values (k.next ∷ k.rest)) in
      subst (KindBytes kinds floor) same (subst (λ (n : ℕ). KindBytes kinds n (all_values (k.next ∷ k.rest) ++ [])) none (part t (all_known {below = []} {ins = k.top.values} refl)))

  module _ {r : Option ℕ} (u : Under k.top k.top.results floor r) where
    pub closes-not : {ls : List Kind} {i : Instr} {after blocks' : List ℕ} → (r ≡ Some floor → ⊥) → Judges ls rs i (plain End) fs after blocks' (Err RESULT)
    closes-not {ls} {i} {after} {blocks'} z =
        subst (λ (x : List Frame). Judges ls rs i (plain End) x after blocks' (Err RESULT)) (sym k.frames) (no_results refl (ends-not u z))

    module _ {l : ℕ} {e : Bool} (h : Has k.top [] k.top.results) (floor-told : l ≡ k.outer-floor) (dead-told : e ≡ k.outer-dead) where
      outside : OpenBlocks rs blocks (nest - 1) l e ((holding k.next (k.next.values ++ k.top.results)) ∷ k.rest)
      outside =
          let v = framed-top' in
          subst (λ (x : ℕ). OpenBlocks rs blocks (nest - 1) x e ((holding k.next (k.next.values ++ k.top.results)) ∷ k.rest)) (sym floor-told)
          (subst (λ (x : Bool). OpenBlocks rs blocks (nest - 1) k.outer-floor x ((holding k.next (k.next.values ++ k.top.results)) ∷ k.rest))
          (v ∙ sym dead-told) (nested-as (holding k.next (k.next.values ++ k.top.results)) refl refl k.around))
        where
          framed-top' : k.next.dead ≡ k.outer-dead
          framed-top' = nested-dead k.around

      by-leaving : {ls : List Kind} {i : Instr} {after : List ℕ} {r : Result ℕ ℕ} → Leaves (all_values (k.next ∷ k.rest)) k.top.results after r
          → Judges ls rs i (plain End) (k.top ∷ k.next ∷ k.rest) after blocks (at_depth r (nest - 1) l e)
      by-leaving (too_many big) =
          too_deep (closes (ends h)) (subst (λ (x : List Kind). stack_limit < length x)
          (append_assoc (all_values k.rest) k.next.values k.top.results) big)
      by-leaving {after = after} (left {d} small g) =
          let same = append_assoc (all_values k.rest) k.next.values k.top.results in
          typed (closes (ends h))
          (record {
            holds = subst (KindBytes after d) same g;
            nested = outside;
            within = record { blocks = omega (arith, framed-here.within.blocks); values = subst (λ (x : List Kind). length x ≤ stack_limit) same small };
          })

      pub closes_by : {ls : List Kind} {i : Instr} {after : List ℕ} {r : Result ℕ ℕ}
          → Leaves (all_values (k.next ∷ k.rest)) k.top.results after r → Judges ls rs i (plain End) fs after blocks (at_depth r (nest - 1) l e)
      closes_by {ls} {i} {after} {r} x =
          subst (λ (y : List Frame). Judges ls rs i (plain End) y after blocks (at_depth r (nest - 1) l e)) (sym k.frames) (by-leaving x)
