-- After the strip's own `end`.
use Prim.Native.Nat.{ℕ, ◌+◌, ◌≤◌, ◌<◌}
use mathlib.Core.Path.{◌≡◌, ap, subst, ◌∙◌}
use mathlib.Core.Bool.{Bool}
use mathlib.Core.List.{List, [], ◌∷◌}
use native.Mathlib.Omega.{arith}
use lib.ListN.{length}
use Rattle.std.specs.Prelude.{Some}
use Rattle.std.specs.declared.option.Option.{Option}
use Rattle.card.specs.Card.{RESULT, TRAILING}
use Rattle.limits.specs.Limits.{file_limit}
use Rattle.opcode.specs.Kind.{Kind}
use Rattle.opcode.specs.Table.{End, plain}
use Rattle.instr.proofs.Ranges.{stands-some, stands-inside, end-first, end-one}
use Rattle.rules.specs.Typing.{Frame, Ends, ends}
use Rattle.rules.specs.Strip.{Reads, Valid}
use Rattle.rules.specs.Breach.{Breach, result, trailing}
use Rattle.checker.specs.Inner.Stack.{Top, Under}
use Rattle.checker.specs.Inner.Blocks.{top_first}
use Rattle.checker.specs.Inner.Parts.{AtEnd}
use Rattle.checker.proofs.Closings.{ends-not, ends-here}

module _ {s : List ℕ} {v takes at : ℕ} {kinds : List ℕ} {depth : ℕ} {dead : Bool} (w : AtEnd s v takes at kinds depth dead) where
  pub end-inside : (at + 1 ≤ length s) × (length s ≤ file_limit)
  end-inside = let t = w.here.reads.stands in (omega (arith, stands-some t, stands-inside t), w.declares.sized)

  pub strip-takes : top_first w.strip.results ≡ takes
  strip-takes = ap top_first w.results_are ∙ w.takes_is

  module _ {r : Option ℕ} (u : (outer ins : List Kind) (f : Frame) → Top kinds depth 0 dead outer f → top_first ins ≡ takes → Under f ins 0 r) where
    ours : Under w.strip w.strip.results 0 r
    ours = u [] w.strip.results w.strip w.top strip-takes

    pub other-results : (r ≡ Some 0 → ⊥) → Breach s RESULT at
    other-results z = result w.here (ends-not ours z)

    module _ (z : r ≡ Some 0) where
      match : Ends (w.strip ∷ [])
      match = ends (ends-here ours z)

      pub trails : at + 1 < length s → Breach s TRAILING (at + 1)
      trails l = trailing w.here match l

      pub passes : length s ≤ at + 1 → Valid s
      passes l =
          let t = w.here.reads in
          let one : w.here.size ≡ 1 = end-one t.stands (end-first w.header.version w.final t.stands.typed.first t.does) in
          record {
            header = w.header;
            place = at;
            strip = w.strip;
            final = w.final;
            reached = w.here.reached;
            ends = subst (Reads w.header.version s at w.final (plain End)) one t;
            whole = match;
            last = omega (arith, end-inside);
          }
