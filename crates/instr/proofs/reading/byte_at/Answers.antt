-- A byte, or none.
use borrow.Author.Tests.{ltb-true, ltb-false}
use mathlib.Core.Path.{sym, ap, ◌∙◌}
use Prim.Native.Nat.{ℕ, ◌+◌}
use Rattle.instr.specs.Decode.{got}
use Rattle.std.proofs.lemmas.List.{get_or_default}
use Rattle.instr.proofs.Items.{byte-there, byte_cut}
use Rattle.instr.proofs.reading.byte_at.Goals as goal

pub returns-in-Some-clause-is : goal.returns-in-Some-clause-is
returns-in-Some-clause-is c =
    rw (byte-there c.args.s.now c.args.p (ltb-true _ _ (sym c.in-Some.ensures.lookup.0))) (ap (λ (b : ℕ). got b (c.args.p + 1)) (c.in-Some.ensures.lookup.1 ∙ get_or_default _ _ _ _ (ltb-true _ _ (sym c.in-Some.ensures.lookup.0))))

pub returns-in-None-clause-is : goal.returns-in-None-clause-is
returns-in-None-clause-is c = rw (c.short.ensures, byte_cut c.args.s.now c.args.p (ltb-false _ _ (sym c.in-None.ensures.lookup.0)))
