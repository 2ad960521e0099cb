-- Code, a blank, place, a line's end.
use native.Mathlib.Omega.{arith}
use Rattle.lister.proofs.Refusals.{line-told}
use Rattle.lister.proofs.refusal.line.Goals as goal

pub returns : goal.returns
returns c =
    let t = line-told (omega (arith, c.ranges.code.fits)) c.ranges.place.fits c.requires c.decimal-after_code.ensures c.push-before_place.ensures
    c.decimal-after_place.ensures c.push.ensures in
    record { upper_bound = (t.0, t.1); appends = t.2 }
