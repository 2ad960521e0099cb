-- Up to 4 the shift is 2 to the exponent; above 4 it is past 16.
use Prim.Native.Nat.{◌^◌}
use mathlib.Core.Path.{◌∙◌, sym}
use native.Mathlib.Omega.{arith}
use lib.Pow.{pow_mono}
use borrow.Author.Tests.{lt-leb}
use Rattle.instr.proofs.exponent_fits.Goals as goal

pub returns-else-a-le4 : goal.returns-else-a-le4
returns-else-a-le4 c =
    lt-leb c.args.a 4 c.if-a-le4.false ∙ sym
    (lt-leb (2 ^ c.args.a) c.args.moved (omega (arith, pow_mono c.if-a-le4.false, c.requires)))
