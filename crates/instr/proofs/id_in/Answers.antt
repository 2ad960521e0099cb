-- The version has the first byte, or not yet.
use mathlib.Core.Path.{◌≡◌, ◌∙◌}
use native.Mathlib.Omega.{arith}
use Rattle.opcode.specs.Table.{latest, row_at}
use Rattle.opcode.proofs.Rows.{row-beyond}
use Rattle.instr.proofs.Classes.{row_in}
use Rattle.instr.proofs.Versions.{row-not-yet, row-already, row-vector}
use borrow.Author.Rules.{rules}
use Rattle.instr.proofs.id_in.Goals as goal
use Rattle.instr.proofs.id_in.Goals.{else-first-ne-PREFIX-via-then-first-ne-PREFIX+else-version-since, else-first-ne-PREFIX-via-else-first-ne-PREFIX}

pub returns-then-version-since : goal.returns-then-version-since
returns-then-version-since c =
    let a = c.args in
    row-beyond 512 (omega arith) ∙ row-not-yet _ _ _ c.if-first-ne-PREFIX.true (omega (arith, c.if-version-since.true, c.since.ensures))

pub returns : goal.returns
returns c =
    let a = c.args in
    let same : row_at latest a.first a.number ≡ row_at a.version a.first a.number = elim c.else-first-ne-PREFIX.branch [
      | else-first-ne-PREFIX-via-then-first-ne-PREFIX+else-version-since w ↦
          row-already _ _ _ w.if-first-ne-PREFIX.true (omega (arith, w.since.ensures, w.if-version-since.false))
      | else-first-ne-PREFIX-via-else-first-ne-PREFIX w ↦ row-vector _ _ _ w.if-first-ne-PREFIX.false
    ] in
    row_in a.first a.number _ (search rules) c.id_of.ensures ∙ same
