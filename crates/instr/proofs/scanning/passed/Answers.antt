-- The opcode, the entry of its row, the rest.
use mathlib.Core.Path.{sym, ap, ◌∙◌}
use native.Mathlib.Omega.{arith}
use Rattle.std.proofs.lemmas.Result.{err_from_is_err_and}
use Rattle.opcode.specs.Entry.{entry_of}
use Rattle.instr.proofs.Over.{over-there, scanned}
use Rattle.instr.proofs.scanning.passed.Goals as goal

pub returns-in_err-rest : goal.returns-in_err-rest
returns-in_err-rest c =
    let p = err_from_is_err_and c.from_residual-in_err-rest.result c.from_residual-in_err-rest.ensures.1 in
    let o = c.in_ok-code.ensures in
    let is = c.entry_in-entry.ensures.entry ∙ ap entry_of c.entry_in-entry.ensures.in_version in
    rw (p.1, p.2) (scanned _ _ _ _ _ _ o.first o.rest _ is _ (sym (c.in_err-rest.ensures _ is)))

pub overflow_sub-result : goal.overflow_sub-result
overflow_sub-result c =
    let o = c.in_ok-code.ensures in
    let rest = sym (c.in_ok-rest.ensures c.entry_in-entry.ensures.row c.entry_in-entry.ensures.entry) in
    omega (arith, over-there _ _ (λ j. (c.type_inv.s j).fits) _ (omega (arith, o.onward)) _ _ _ rest)

pub overflow_cast-result : goal.overflow_cast-result
overflow_cast-result c =
    let o = c.in_ok-code.ensures in
    let rest = sym (c.in_ok-rest.ensures c.entry_in-entry.ensures.row c.entry_in-entry.ensures.entry) in
    omega (arith, over-there _ _ (λ j. (c.type_inv.s j).fits) _ (omega (arith, o.onward)) _ _ _ rest)

pub returns : goal.returns
returns c =
    let o = c.in_ok-code.ensures in
    let is = c.entry_in-entry.ensures.entry ∙ ap entry_of c.entry_in-entry.ensures.in_version in
    scanned _ _ _ _ _ _ o.first o.rest _ is _ (sym (c.in_ok-rest.ensures _ is))
