-- No such block, `br_if`, or `br`.
use native.Mathlib.Omega.{arith}
use Rattle.checker.proofs.Branchings.{jumps-nowhere}
use Rattle.checker.proofs.turns.jump.Goals as goal

pub returns-then-nest-n-clause-judges : goal.returns-then-nest-n-clause-judges
returns-then-nest-n-clause-judges c = λ i ls rs fs e t few w. jumps-nowhere c.args.maybe w (omega (arith, c.if-nest-n.true, e))
