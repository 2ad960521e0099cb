-- The line, and then the step.
use mathlib.Core.Path.{refl}
use native.Mathlib.Omega.{arith}
use Rattle.listing.proofs.Walking.{counts-inside, inside, shows, walked}
use Rattle.listing.proofs.next_line.Goals as goal

pub bounds-strip-3 : goal.bounds-strip-3
bounds-strip-3 c = omega (arith, counts-inside c.requires.0)

pub line-len-requires : goal.line-len-requires
line-len-requires c = shows c.requires.0 c.fetch-f.ensures c.requires.1

pub overflow_add-next : goal.overflow_add-next
overflow_add-next c = omega (arith, inside c.requires.0 c.fetch-f.ensures)

pub returns : goal.returns
returns c = walked c.follow-state.ensures c.fetch-f.ensures c.requires.1 c.line-len.ensures refl
