-- Four ways out: a version that is not known, what is wrong, no room, the bytes.
use mathlib.Core.Bool.{not}
use mathlib.Core.Path.{refl, sym, ap, ◌∙◌}
use native.Mathlib.Omega.{arith}
use Rattle.opcode.specs.Number.{row_of}
use Rattle.opcode.proofs.Entries.{class-in}
use Rattle.std.proofs.lemmas.Result.{err_from_is_err_and}
use Rattle.instr.proofs.Versions.{fault-unknown, fault-by, class-by}
use Rattle.instr.proofs.Forms.{encoding-length, is-fault, is-small, is-done}
use Rattle.instr.proofs.encoding.write.Goals as goal

pub returns-then-not-is_known : goal.returns-then-not-is_known
returns-then-not-is_known c =
    let a = c.args in
    let both = is-fault a.i a.version a.out.now _ (fault-unknown a.version c.is_known.ensures a.i (ap not c.if-not-is_known.true)) (λ z. omega (arith, z)) in
    record { answer = both.0; bytes = both.1 }

pub returns-in_err-allowed : goal.returns-in_err-allowed
returns-in_err-allowed c =
    let a = c.args in
    let p = err_from_is_err_and c.from_residual.result c.from_residual.ensures.1 in
    let both = is-fault a.i a.version a.out.now _ (fault-by a.version c.is_known.ensures a.i _ (ap not c.if-not-is_known.false) c.id_in-id.ensures
    c.in_err-allowed.ensures.is) c.in_err-allowed.ensures.wrong in
    record { answer = rw (p.1, p.2) both.0; bytes = both.1 }

pub immediates_len-requires : goal.immediates_len-requires
immediates_len-requires c =
    let a = c.args in
    class-by a.version a.i _ c.id_in-id.ensures c.in_ok-allowed.ensures.is refl
    (c.immediates-class.ensures ∙ class-in (row_of c.id_in-id.result) c.entry.ensures)

pub returns-then-out-n : goal.returns-then-out-n
returns-then-out-n c =
    let a = c.args in
    let both = is-small a.i a.version a.out.now (sym (fault-by a.version c.is_known.ensures a.i _ (ap not c.if-not-is_known.false)
    c.id_in-id.ensures c.in_ok-allowed.ensures.is))
    (omega (arith, c.if-out-n.true, encoding-length a.i, c.opcode_len.ensures.0, c.immediates_len.ensures.0)) in
    record { answer = both.0; bytes = both.1 }

pub put_immediates-requires : goal.put_immediates-requires
put_immediates-requires c =
    let a = c.args in (
      class-by a.version a.i _ c.id_in-id.ensures c.in_ok-allowed.ensures.is refl
          (c.immediates-class.ensures ∙ class-in (row_of c.id_in-id.result) c.entry.ensures),
      omega (
        arith,
        c.if-out-n.false,
        c.opcode_len.ensures.0,
        c.immediates_len.ensures.0,
        c.put_opcode-at.ensures.to,
        c.put_opcode-at.auto.out,
      ),
    )

pub returns : goal.returns
returns c =
    let a = c.args in
    let both = is-done a.i a.version a.out.now (sym (fault-by a.version c.is_known.ensures a.i _ (ap not c.if-not-is_known.false)
    c.id_in-id.ensures c.in_ok-allowed.ensures.is))
    (omega (arith, c.if-out-n.false, encoding-length a.i, c.opcode_len.ensures.0, c.immediates_len.ensures.0))
    c.put_opcode-at.ensures c.put_immediates.ensures in
    record { answer = both.0; bytes = both.1 }
