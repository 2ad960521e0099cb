-- The first byte below 128, or none.
use native.Mathlib.Omega.{arith}
use lib.ListN.{length-drop}
use mathlib.Core.Path.{sym}
use Rattle.std.proofs.lemmas.List.{take_rest}
use Rattle.closing.proofs.Fields.{past-last, past-all}
use Rattle.closing.proofs.passing.past_number.Goals as goal

pub returns-in-Some : goal.returns-in-Some
returns-in-Some c =
    let e = rw take_rest at c.in-Some.ensures in
    let p = past-last c.args.s.now c.args.p c.in-Some.last c.requires e in
    (sym p, omega (arith, e.inside, length-drop c.args.p c.args.s.now))

pub returns-in-None : goal.returns-in-None
returns-in-None c = (sym (past-all c.args.s.now c.args.p c.requires (rw take_rest at c.in-None.ensures)), omega arith)
