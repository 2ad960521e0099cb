use borrow.Author.Rules.{rules}
use native.Mathlib.Omega.{arith}
use mathlib.Core.Path.{◌≡◌}
use lib.ListN.{length}
use Rattle.listing.proofs.Parts.{telling-begins, telling-more}
use Rattle.listing.proofs.immediates.bytes.Goals as goal

pub loop-x-init : goal.loop-x-init
loop-x-init c = telling-begins _ _ _ c.requires

pub loop-x-preserved : goal.loop-x-preserved
loop-x-preserved c =
    let n : length c.args.b ≡ 16 = search rules in
    telling-more c.loop-x.invariant (omega arith) n (rw c.from.ensures at c.number-to.ensures)
