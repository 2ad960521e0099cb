-- The bytes, class by class.
use borrow.Author.Rules.{rules}
use mathlib.Core.Logic.{inl, inr}
use mathlib.Core.Path.{◌≡◌, sym, ap, subst, ◌∙◌}
use native.Mathlib.Omega.{arith}
use lib.ListN.{length, length-append}
use Rattle.opcode.specs.Table.{latest}
use Rattle.instr.specs.Layout.{row_in}
use Rattle.instr.specs.Encode.{written}
use Rattle.instr.proofs.Classes.{AllBut, carrying, fields-other}
use Rattle.instr.proofs.Forms.{bytes-index, bytes_word, bytes-long, bytes-memory, bytes-memory-lane, bytes-lane, bytes-block, bytes-sixteen}
use Rattle.instr.proofs.Sets.{put-none, put_then, put_same}
use Rattle.instr.proofs.encoding.put_immediates.Goals as goal

pub put_number-requires : goal.put_number-requires
put_number-requires c = omega (arith, c.requires.1, ap length (bytes-index (row_in latest c.args.i) c.args.i (sym c.requires.0 ∙ c.in-1.is)))

pub put_number-requires-in-2 : goal.put_number-requires-in-2
put_number-requires-in-2 c = omega (arith, c.requires.1, ap length (bytes_word (row_in latest c.args.i) c.args.i (sym c.requires.0 ∙ c.in-2.is)))

pub put_number-requires-in-3 : goal.put_number-requires-in-3
put_number-requires-in-3 c = omega (arith, c.requires.1, ap length (bytes-long (row_in latest c.args.i) c.args.i (sym c.requires.0 ∙ c.in-3.is)))

pub put_number-p-requires : goal.put_number-p-requires
put_number-p-requires c =
    omega (
      arith,
      c.requires.1,
      simp length-append at (ap length
          (bytes-memory (row_in latest c.args.i) c.args.i (sym c.requires.0 ∙ c.in-4.is))),
    )

pub put_number-requires-in-4 : goal.put_number-requires-in-4
put_number-requires-in-4 c =
    omega (
      arith,
      c.requires.1,
      simp length-append at (ap length
          (bytes-memory (row_in latest c.args.i) c.args.i (sym c.requires.0 ∙ c.in-4.is))),
      c.put_number-p.ensures.to,
      c.put_number-p.auto.out,
    )

pub put_number-p-requires-in-5 : goal.put_number-p-requires-in-5
put_number-p-requires-in-5 c =
    omega (
      arith,
      c.requires.1,
      simp length-append at (ap length
          (bytes-memory-lane (row_in latest c.args.i) c.args.i (sym c.requires.0 ∙ c.in-5.is))),
    )

pub put_number-q-requires : goal.put_number-q-requires
put_number-q-requires c =
    omega (
      arith,
      c.requires.1,
      simp length-append at (ap length
          (bytes-memory-lane (row_in latest c.args.i) c.args.i (sym c.requires.0 ∙ c.in-5.is))),
      c.put_number-p-in-5.ensures.to,
      c.put_number-p-in-5.auto.out,
    )

pub put_byte-requires : goal.put_byte-requires
put_byte-requires c =
    omega (
      arith,
      c.requires.1,
      simp length-append at (ap length
          (bytes-memory-lane (row_in latest c.args.i) c.args.i (sym c.requires.0 ∙ c.in-5.is))),
      c.put_number-p-in-5.ensures.to,
      c.put_number-p-in-5.auto.out,
      c.put_number-q.ensures.to,
      c.put_number-q.auto.out,
    )

pub put_byte-requires-in-6 : goal.put_byte-requires-in-6
put_byte-requires-in-6 c = omega (arith, c.requires.1, ap length (bytes-lane (row_in latest c.args.i) c.args.i (sym c.requires.0 ∙ c.in-6.is)))

pub put_bytes-requires : goal.put_bytes-requires
put_bytes-requires c =
    let l : length c.args.i.bytes ≡ 16 = search rules in omega
    (arith, c.requires.1, ap length (bytes-sixteen (row_in latest c.args.i) c.args.i (inl (sym c.requires.0 ∙ c.in-7.is))), l)

pub put_bytes-requires-in-8 : goal.put_bytes-requires-in-8
put_bytes-requires-in-8 c =
    let l : length c.args.i.bytes ≡ 16 = search rules in omega
    (arith, c.requires.1, ap length (bytes-sixteen (row_in latest c.args.i) c.args.i (inr (sym c.requires.0 ∙ c.in-8.is))), l)

pub put_byte-requires-in-9 : goal.put_byte-requires-in-9
put_byte-requires-in-9 c = omega (arith, c.requires.1, ap length (bytes-block (row_in latest c.args.i) c.args.i (sym c.requires.0 ∙ c.in-9.is)))

pub returns-in-1 : goal.returns-in-1
returns-in-1 c = put_same (bytes-index (row_in latest c.args.i) c.args.i (sym c.requires.0 ∙ c.in-1.is)) c.put_number.ensures

pub returns-in-2 : goal.returns-in-2
returns-in-2 c = put_same (bytes_word (row_in latest c.args.i) c.args.i (sym c.requires.0 ∙ c.in-2.is)) c.put_number-in-2.ensures

pub returns-in-3 : goal.returns-in-3
returns-in-3 c = put_same (bytes-long (row_in latest c.args.i) c.args.i (sym c.requires.0 ∙ c.in-3.is)) c.put_number-in-3.ensures

pub returns-in-4 : goal.returns-in-4
returns-in-4 c =
    put_same (bytes-memory (row_in latest c.args.i) c.args.i (sym c.requires.0 ∙ c.in-4.is))
    (put_then c.put_number-p.ensures c.put_number-in-4.ensures)

pub returns-in-5 : goal.returns-in-5
returns-in-5 c =
    put_same (bytes-memory-lane (row_in latest c.args.i) c.args.i (sym c.requires.0 ∙ c.in-5.is))
    (put_then c.put_number-p-in-5.ensures (put_then c.put_number-q.ensures c.put_byte.ensures))

pub returns-in-6 : goal.returns-in-6
returns-in-6 c = put_same (bytes-lane (row_in latest c.args.i) c.args.i (sym c.requires.0 ∙ c.in-6.is)) c.put_byte-in-6.ensures

pub returns-in-7 : goal.returns-in-7
returns-in-7 c =
    put_same (bytes-sixteen (row_in latest c.args.i) c.args.i (inl (sym c.requires.0 ∙ c.in-7.is)))
    c.put_bytes.ensures

pub returns-in-8 : goal.returns-in-8
returns-in-8 c =
    put_same (bytes-sixteen (row_in latest c.args.i) c.args.i (inr (sym c.requires.0 ∙ c.in-8.is)))
    c.put_bytes-in-8.ensures

pub returns-in-9 : goal.returns-in-9
returns-in-9 c = put_same (bytes-block (row_in latest c.args.i) c.args.i (sym c.requires.0 ∙ c.in-9.is)) c.put_byte-in-9.ensures

pub returns-in_default : goal.returns-in_default
returns-in_default c =
    put_same (ap written (fields-other (row_in latest c.args.i) (subst (AllBut carrying) c.requires.0 c.in_default.in_default-own.rest) c.args.i)) (put-none _ _)
