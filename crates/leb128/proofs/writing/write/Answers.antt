-- The buffer has room or not; where it has, the integer's bytes are put there. `writes-number` says the same by the grammar.
use native.Mathlib.Omega.{arith}
use mathlib.Core.Path.{ap}
use Prim.Native.Nat.{◌+◌}
use Rattle.leb128.proofs.Forms.{limit-least}
use Rattle.leb128.proofs.WriteLoops.{form-of}
use Rattle.leb128.proofs.Puts.{accepted, refused, writes-number}
use Rattle.leb128.proofs.writing.write.Goals as goal
use Rattle.leb128.proofs.writing.write.Goals.{then-out-n-via-then-out-n, then-out-n-via-else-out-n+then-out-n-2}

pub returns-then-out-n : goal.returns-then-out-n
returns-then-out-n g c =
    let n = c.len-n.ensures.answer in
    let r = refused _ c.args.at c.args.out.now (elim c.then-out-n.branch [ then-out-n-via-then-out-n w ↦ omega (arith, n) | then-out-n-via-else-out-n+then-out-n-2 w ↦ omega (arith, n) ]) in
    writes-number _ _ _ g.met.F.Format.some c.integer_of-z.ensures.fits _ _ _ _ r.0 r.1

pub put-requires : goal.put-requires
put-requires g c =
    let form = form-of _ _ _ _ _ _ _ c.integer_of-z.ensures.holds c.SIGNED.ensures c.limit.ensures in
    (rw c.limit.ensures (limit-least _), rw form (ap (λ k. c.args.at + k) c.len-n.ensures.answer), omega arith)

pub returns : goal.returns
returns g c =
    let form = form-of _ _ _ _ _ _ _ c.integer_of-z.ensures.holds c.SIGNED.ensures c.limit.ensures in
    let n = c.len-n.ensures.answer in
    let r = accepted _ c.args.at c.args.out.now (omega (arith, n)) _ (ap (λ k. c.args.at + k) n) _ (rw form at c.put.ensures) in
    writes-number _ _ _ g.met.F.Format.some c.integer_of-z.ensures.fits _ _ _ _ r.0 r.1
