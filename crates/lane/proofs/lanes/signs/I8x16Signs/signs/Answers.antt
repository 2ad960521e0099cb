-- The product is computed for all 256 patterns of signs.
use Prim.Native.Nat.{ℕ, ◌/◌, ◌^◌}
use mathlib.Core.Path.{refl, ◌∙◌, ap}
use mir.Syntax.{w8}
use Rattle.lane.specs.Inner.Words.{fieldwise, signs}
use Rattle.lane.proofs.Laws.Signs.{gathered}
use Rattle.lane.proofs.lanes.signs.I8x16Signs.signs.Goals as goal

pub returns : goal.returns
unfolding fieldwise signs
returns c = ap (λ (y : ℕ). y / 2 ^ 56) c.mul.ensures ∙ gathered w8 8 0x0002_0408_1020_4081 56 refl c.args.word 0
