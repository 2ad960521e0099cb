-- No room for a block more, or one more word.
use Prim.Native.Nat.{ℕ}
use mathlib.Core.Path.{◌≡◌, sym, subst}
use mathlib.Core.Bool.{true}
use Rattle.opcode.specs.BlockType.{is_block_type}
use native.Mathlib.Omega.{arith}
use Rattle.checker.proofs.Beginnings.{begins-none, begins}
use Rattle.checker.proofs.turns.begin.Goals as goal

pub returns-then-n-eq-NEST-clause-judges : goal.returns-then-n-eq-NEST-clause-judges
returns-then-n-eq-NEST-clause-judges c = λ i ls rs fs kinds e is w. begins-none c.args.looped w c.if-n-eq-NEST.true

pub returns-clause-judges : goal.returns-clause-judges
returns-clause-judges c =
    λ i ls rs fs kinds e is w.
    begins c.args.looped c.args.block c.word_of.result (omega (arith, c.requires.2, c.if-n-eq-NEST.false)) c.requires.3
    c.word_of.ensures (subst (λ (x : ℕ). is_block_type x ≡ true) (sym e) is) (sym e) w
