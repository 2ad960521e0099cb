-- The version, the first byte, the number.
use mathlib.Core.Bool.{not}
use mathlib.Core.Path.{sym, ap, ◌∙◌}
use native.Mathlib.Omega.{arith}
use Rattle.std.proofs.lemmas.Result.{err_from_is_err_and}
use Rattle.instr.proofs.Versions.{decode-known, it-is}
use Rattle.instr.proofs.Items.{decode-none, decode-number, decode-body}
use Rattle.instr.proofs.decoding.opcode_at.Goals as goal

pub returns-in_err-first : goal.returns-in_err-first
returns-in_err-first c =
    let p = err_from_is_err_and c.from_residual.result c.from_residual.ensures.1 in
    rw (p.1, p.2) (decode-known c.args.version c.is_known.ensures c.args.s.now c.args.at (ap not c.if-not-is_known.false) ∙ decode-none _ _ _ _ _ (sym c.in_err-first.ensures.is))

pub returns-in_err-number : goal.returns-in_err-number
returns-in_err-number c =
    let p = err_from_is_err_and c.from_residual-in_err-number.result c.from_residual-in_err-number.ensures.1 in
    rw (p.1, p.2) (decode-known c.args.version c.is_known.ensures c.args.s.now c.args.at (ap not c.if-not-is_known.false)
    ∙ decode-number _ _ _ _ _ (sym c.in_ok-first.ensures.is) _ _ (sym c.in_err-number.ensures.is))

pub returns : goal.returns
returns c =
    record {
      version = it-is c.args.version c.is_known.ensures (ap not c.if-not-is_known.false);
      first = omega arith;
      onward = omega (arith, c.in_ok-number.ensures.within);
      inside = omega (arith, c.in_ok-number.ensures.within);
      rest =
          decode-known c.args.version c.is_known.ensures c.args.s.now c.args.at (ap not c.if-not-is_known.false)
          ∙ decode-body _ _ _ _ _ (sym c.in_ok-first.ensures.is) _ _ (sym c.in_ok-number.ensures.is);
    }
