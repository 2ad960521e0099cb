use mathlib.Core.Path.{◌∙◌, ap}
use Prim.Native.Nat.{ℕ}
use Rattle.operation.specs.Vector.{vec}
use Rattle.operation.proofs.Laws.Lane.{wrapped-lane}
use Rattle.lane.proofs.integer.Integer.load_splat.Goals as goal

pub returns : goal.returns
returns g c =
    let w = g.Self.Lane.Lane.width in
    c.everywhere.ensures ∙ ap (λ (x : ℕ). vec w (λ n. x)) (c.get.ensures ∙ wrapped-lane w c.args.m.bytes 0)
