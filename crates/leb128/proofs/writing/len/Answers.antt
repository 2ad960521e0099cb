-- The integer's bytes are counted; `counts-bytes` says the same by the grammar.
use mathlib.Core.Path.{ap, ◌∙◌}
use lib.ListN.{length}
use Rattle.leb128.proofs.WriteLoops.{form-of}
use Rattle.leb128.proofs.Puts.{counts-bytes}
use Rattle.leb128.proofs.writing.len.Goals as goal

pub returns : goal.returns
returns g c =
    let z = c.integer_of.ensures in
    let form = form-of _ _ _ _ _ _ _ z.holds c.SIGNED.ensures c.limit.ensures in
    counts-bytes _ _ _ g.met.F.Format.some z.fits _ (c.count.ensures c.integer_of.result.negative ∙ ap length form)
