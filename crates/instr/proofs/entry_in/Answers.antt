-- By the group, or by the version.
use mathlib.Core.Path.{ap, ◌∙◌}
use native.Mathlib.Omega.{arith}
use Rattle.opcode.specs.Table.{latest, row_at}
use Rattle.opcode.specs.Number.{row_of}
use Rattle.opcode.specs.Entry.{entry_of}
use Rattle.opcode.proofs.Entries.{group-in}
use Rattle.opcode.proofs.Versions.{row-early, known-range}
use Rattle.instr.proofs.Classes.{row_in}
use borrow.Author.Rules.{rules}
use Rattle.instr.proofs.entry_in.Goals as goal

pub returns-then-group-lt-GROUP_I32_EQZ : goal.returns-then-group-lt-GROUP_I32_EQZ
returns-then-group-lt-GROUP_I32_EQZ c =
    let a = c.args in
    let row = row_in a.first a.number _ (search rules) c.id_of.ensures in
    let is = c.entry-entry.ensures ∙ ap entry_of row in
    record {
      row = row_at latest a.first a.number;
      entry = is;
      in_version = row-early a.version a.first a.number (search rules)
          (known-range a.version c.requires).0 (omega (arith, c.if-group-lt-GROUP_I32_EQZ.true, c.group.ensures, group-in (row_at latest a.first a.number) is));
    }
