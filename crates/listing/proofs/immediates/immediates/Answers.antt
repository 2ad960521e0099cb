-- The numbers, class by class.
use mathlib.Core.Logic.{inl, inr}
use mathlib.Core.Path.{sym, subst, ◌∙◌}
use native.Mathlib.Omega.{arith}
use Rattle.opcode.specs.Table.{latest}
use Rattle.instr.specs.Layout.{row_in}
use Rattle.instr.proofs.Classes.{AllBut, carrying, fields-other}
use Rattle.listing.proofs.Parts.{adds_same, adds-most, adds_none, adds-both, adds-ends}
use Rattle.listing.proofs.Shown.{shown-index, shown-word, shown-long, shown-memory, shown-memory-lane, shown-lane, shown-sixteen, shown-block}
use Rattle.listing.proofs.Shown.{shown-none}
use Rattle.listing.proofs.immediates.immediates.Goals as goal

pub returns-in-1 : goal.returns-in-1
returns-in-1 c = adds-most (omega arith) (adds_same (shown-index c.args.i (sym c.requires.0 ∙ c.in-1.is)) (rw c.from.ensures at c.number.ensures))

pub returns-in-2 : goal.returns-in-2
returns-in-2 c = adds-most (omega arith) (adds_same (shown-word c.args.i (sym c.requires.0 ∙ c.in-2.is)) c.word.ensures)

pub returns-in-3 : goal.returns-in-3
returns-in-3 c = adds-most (omega arith) (adds_same (shown-long c.args.i (sym c.requires.0 ∙ c.in-3.is)) c.long.ensures)

pub returns-in-4 : goal.returns-in-4
returns-in-4 c =
    adds-most (omega arith) (adds_same (shown-memory c.args.i (sym c.requires.0 ∙ c.in-4.is))
    (adds-both (rw c.from-in-4.ensures at c.number-p.ensures) (rw c.from-in-4-2.ensures at c.number-in-4.ensures) (omega (arith, c.requires.1))))

pub returns-in-5 : goal.returns-in-5
returns-in-5 c =
    let p = adds-ends c.number-p-in-5.ensures (omega (arith, c.requires.1)) in
    adds-most (omega arith)
    (adds_same (shown-memory-lane c.args.i (sym c.requires.0 ∙ c.in-5.is)) (adds-both (rw c.from-in-5.ensures at c.number-p-in-5.ensures)
    (adds-both (rw c.from-in-5-2.ensures at c.number-q.ensures) (rw c.from-in-5-3.ensures at c.number-in-5.ensures) (omega (arith, p, c.requires.1))) (omega (arith, c.requires.1))))

pub returns-in-6 : goal.returns-in-6
returns-in-6 c = adds-most (omega arith) (adds_same (shown-lane c.args.i (sym c.requires.0 ∙ c.in-6.is)) (rw c.from-in-6.ensures at c.number-in-6.ensures))

pub returns-in-7 : goal.returns-in-7
returns-in-7 c = adds_same (shown-sixteen c.args.i (inl (sym c.requires.0 ∙ c.in-7.is))) c.bytes.ensures

pub returns-in-8 : goal.returns-in-8
returns-in-8 c = adds_same (shown-sixteen c.args.i (inr (sym c.requires.0 ∙ c.in-8.is))) c.bytes-in-8.ensures

pub returns-in-9 : goal.returns-in-9
returns-in-9 c = adds-most (omega arith) (adds_same (shown-block c.args.i (sym c.requires.0 ∙ c.in-9.is)) (rw c.from-in-9.ensures at c.number-in-9.ensures))

pub returns-in_default : goal.returns-in_default
returns-in_default c =
    adds-most (omega arith) (adds_same (shown-none c.args.i
    (fields-other (row_in latest c.args.i) (subst (AllBut carrying) c.requires.0 c.in_default.in_default-own.rest)
    c.args.i)) (adds_none _ _ (omega (arith, c.requires.1))))
