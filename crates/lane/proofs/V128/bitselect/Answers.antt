-- The bits of a under the mask, or those of b outside it.
use borrow.Author.Rules.{rules}
use Prim.Native.Nat.{ℕ, ◌*◌, ◌<◌, ◌^◌}
use mathlib.Core.Path.{◌∙◌, ap, ap₂, subst}
use mathlib.Core.List.{List}
use lib.Bits.{bit_or}
use Rattle.operation.specs.Vector.{number, le, Sixteen}
use Rattle.operation.proofs.Laws.Number.{number_lt}
use Rattle.lane.proofs.Laws.Bitwise.{select}
use Rattle.lane.proofs.V128.bitselect.Goals as goal

below : (v : List ℕ) → Sixteen v → number v < 2 ^ 128
below v s = subst (λ (n : ℕ). number v < 2 ^ (8 * n)) s.long (number_lt v s.bytes)

pub returns : goal.returns
returns c =
    let s = c.args in
    let sa : Sixteen s.a.bytes = search rules in let sb : Sixteen s.b.bytes = search rules in let sc : Sixteen s.c.bytes = search rules in
    c.or.ensures
    ∙ ap₂ (λ (x y : List ℕ). le 16 (bit_or (number x) (number y))) c.and.ensures c.andnot.ensures
    ∙ ap (le 16) (select (number s.a.bytes) (number s.b.bytes) (number s.c.bytes) (below s.a.bytes sa) (below s.b.bytes sb) (below s.c.bytes sc))
