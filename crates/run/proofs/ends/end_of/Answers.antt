-- Kept already, or found and kept.
use mathlib.Core.Path.{refl}
use native.Mathlib.Omega.{arith}
use Rattle.run.proofs.Keeping.{found-true, fits, kept_more}
use Rattle.run.proofs.ends.end_of.Goals as goal

pub overflow_add-ends : goal.overflow_add-ends
overflow_add-ends c = omega (arith, fits c.requires.0 c.requires.1 (λ j. (c.type_inv.strip j).fits) c.close-next.ensures)

pub overflow_cast-ends : goal.overflow_cast-ends
overflow_cast-ends c = omega (arith, fits c.requires.0 c.requires.1 (λ j. (c.type_inv.strip j).fits) c.close-next.ensures)

pub returns : goal.returns
returns c = (
  found-true c.requires.0 c.requires.1 (λ j. (c.type_inv.strip j).fits) c.close-next.ensures,
  kept_more
      c.requires.0 c.requires.1 (λ j. (c.type_inv.strip j).fits) c.close-next.ensures _ _ (omega arith) refl,
)
