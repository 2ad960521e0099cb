-- The arguments at the front, zeros after them.
use Prim.Native.Nat.{ℕ}
use mathlib.Core.Path.{refl, ap, sym, ◌∙◌}
use mathlib.Core.List.{List, ◌++◌}
use native.Mathlib.Nat.{zero-add}
use lib.ListN.{length, drop, replicate}
use Rattle.limits.specs.Limits.{local_bytes}
use Rattle.machine.specs.Memory.{stored}
use Rattle.buffer.proofs.Writing.{copied}
use Rattle.run.proofs.arguments.locals_of.Goals as goal

pub returns : goal.returns
unfolding stored
returns c =
    let args = c.args.args.now in
    let zeros : List ℕ = replicate local_bytes 0 in
    (c.copy.ensures.1 ∙ copied args zeros ∙ ap (λ (k : ℕ). args ++ drop k zeros) (sym (zero-add (length args))), refl)
