-- The length, class by class.
use borrow.Author.Rules.{rules}
use mathlib.Core.Bool.{true, false}
use mathlib.Core.List.{List}
use mathlib.Core.Logic.{inl, inr}
use mathlib.Core.Path.{◌≡◌, sym, ap, subst, ◌∙◌}
use native.Mathlib.Omega.{arith}
use lib.ListN.{length, length-append}
use Rattle.leb128.specs.Shortest.{bytes_of}
use Rattle.leb128.proofs.Bounds.{form-32, form-64}
use Rattle.opcode.specs.Table.{latest}
use Rattle.instr.specs.Layout.{Field, row_in}
use Rattle.instr.specs.Encode.{written}
use Rattle.instr.proofs.Classes.{AllBut, carrying, fields-other}
use Rattle.instr.proofs.Forms.{bytes-index, bytes_word, bytes-long, bytes-memory, bytes-memory-lane, bytes-lane, bytes-block, bytes-sixteen}
use Rattle.instr.proofs.encoding.immediates_len.Goals as goal

pub overflow_add-result : goal.overflow_add-result
overflow_add-result c =
    omega (
      arith,
      c.len-in-4.ensures.answer,
      c.len-in-4-2.ensures.answer,
      form-32 false c.args.i.align (search rules),
      form-32 false
          c.args.i.offset (search rules),
    )

pub overflow_add-result-in-5 : goal.overflow_add-result-in-5
overflow_add-result-in-5 c =
    omega (
      arith,
      c.len-in-5.ensures.answer,
      c.len-in-5-2.ensures.answer,
      form-32 false c.args.i.align (search rules),
      form-32 false
          c.args.i.offset (search rules),
    )

pub overflow_add-result-in-5-2 : goal.overflow_add-result-in-5-2
overflow_add-result-in-5-2 c =
    omega (
      arith,
      c.len-in-5.ensures.answer,
      c.len-in-5-2.ensures.answer,
      form-32 false c.args.i.align (search rules),
      form-32 false
          c.args.i.offset (search rules),
    )

pub returns-in-1 : goal.returns-in-1
returns-in-1 c = (
  omega (arith, ap length (bytes-index (row_in latest c.args.i) c.args.i (sym c.requires ∙ c.in-1.is)), c.len.ensures.answer),
  omega (arith, c.len.ensures.answer, form-32 false c.args.i.index (search rules)),
)

pub returns-in-2 : goal.returns-in-2
returns-in-2 c = (
  omega (arith, ap length (bytes_word (row_in latest c.args.i) c.args.i (sym c.requires ∙ c.in-2.is)), c.len-in-2.ensures.answer),
  omega (arith, c.len-in-2.ensures.answer, form-32 true c.args.i.word (search rules)),
)

pub returns-in-3 : goal.returns-in-3
returns-in-3 c = (
  omega (arith, ap length (bytes-long (row_in latest c.args.i) c.args.i (sym c.requires ∙ c.in-3.is)), c.len-in-3.ensures.answer),
  omega (arith, c.len-in-3.ensures.answer, form-64 true c.args.i.long (search rules)),
)

pub returns-in-4 : goal.returns-in-4
returns-in-4 c = (
  omega (
    arith,
    ap length (bytes-memory (row_in latest c.args.i) c.args.i (sym c.requires ∙ c.in-4.is)),
    length-append
        (bytes_of false 32 c.args.i.align) (bytes_of false 32 c.args.i.offset),
    c.len-in-4.ensures.answer,
    c.len-in-4-2.ensures.answer,
  ),
  omega (
    arith,
    c.len-in-4.ensures.answer,
    c.len-in-4-2.ensures.answer,
    form-32 false c.args.i.align (search rules),
    form-32 false
        c.args.i.offset (search rules),
  ),
)

pub returns-in-5 : goal.returns-in-5
returns-in-5 c = (
  omega (
    arith,
    simp length-append at (ap length (bytes-memory-lane (row_in latest c.args.i) c.args.i
        (sym c.requires ∙ c.in-5.is))),
    c.len-in-5.ensures.answer,
    c.len-in-5-2.ensures.answer,
  ),
  omega (
    arith,
    c.len-in-5.ensures.answer,
    c.len-in-5-2.ensures.answer,
    form-32 false c.args.i.align (search rules),
    form-32 false
        c.args.i.offset (search rules),
  ),
)

pub returns-in-6 : goal.returns-in-6
returns-in-6 c = (omega (arith, ap length (bytes-lane (row_in latest c.args.i) c.args.i (sym c.requires ∙ c.in-6.is))), omega arith)

pub returns-in-7 : goal.returns-in-7
returns-in-7 c =
    let l : length c.args.i.bytes ≡ 16 = search rules in
    (omega (arith, ap length (bytes-sixteen (row_in latest c.args.i) c.args.i (inl (sym c.requires ∙ c.in-7.is))), l), omega arith)

pub returns-in-8 : goal.returns-in-8
returns-in-8 c =
    let l : length c.args.i.bytes ≡ 16 = search rules in
    (omega (arith, ap length (bytes-sixteen (row_in latest c.args.i) c.args.i (inr (sym c.requires ∙ c.in-8.is))), l), omega arith)

pub returns-in-9 : goal.returns-in-9
returns-in-9 c = (omega (arith, ap length (bytes-block (row_in latest c.args.i) c.args.i (sym c.requires ∙ c.in-9.is))), omega arith)

pub returns-in_default : goal.returns-in_default
returns-in_default c = (
  sym (ap (λ (fs : List Field). length (written fs))
      (fields-other (row_in latest c.args.i) (subst (AllBut carrying) c.requires c.in_default.in_default-own.rest) c.args.i)),
  omega arith,
)
