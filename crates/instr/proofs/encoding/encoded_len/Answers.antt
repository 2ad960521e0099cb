-- The opcode's bytes and the immediates'.
use borrow.Author.Rules.{rules}
use mathlib.Core.Path.{ap, ◌∙◌}
use native.Mathlib.Omega.{arith}
use Rattle.opcode.specs.Number.{class_of, row_of}
use Rattle.opcode.proofs.Entries.{class-in}
use Rattle.instr.proofs.Classes.{row_in}
use Rattle.instr.proofs.Forms.{encoding-length}
use Rattle.instr.proofs.encoding.encoded_len.Goals as goal

pub immediates_len-requires : goal.immediates_len-requires
immediates_len-requires c =
    let i = c.args.i in
    c.immediates.ensures ∙ class-in (row_of c.id_of.result) c.entry-entry.ensures ∙ ap class_of
    (row_in i.first i.number _ (search rules) c.id_of.ensures)

pub returns : goal.returns
returns c = omega (arith, encoding-length c.args.i, c.opcode_len.ensures.0, c.immediates_len.ensures.0)
