-- The product is computed for all 16 patterns of signs.
use Prim.Native.Nat.{ℕ, ◌/◌, ◌^◌}
use mathlib.Core.Path.{refl, ◌∙◌, ap}
use mir.Syntax.{w16}
use Rattle.lane.specs.Inner.Words.{fieldwise, signs}
use Rattle.lane.proofs.Laws.Signs.{gathered}
use Rattle.lane.proofs.lanes.signs.I16x8Signs.signs.Goals as goal

pub returns : goal.returns
unfolding fieldwise signs
returns c = ap (λ (y : ℕ). y / 2 ^ 60) c.mul.ensures ∙ gathered w16 4 0x0000_2000_4000_8001 60 refl c.args.word 0
