-- Counted, then no room or all written.
use mathlib.Core.Path.{refl}
use native.Mathlib.Omega.{arith}
use Rattle.rules.proofs.Strips.{valid-holds, header-counts}
use Rattle.checker.proofs.Starts.{starts-at}
use Rattle.rewrite.proofs.Room.{ready-to-count, too_small, header-long, header-fits, ready-to-write, all-written}
use Rattle.rewrite.proofs.shorten.Goals as goal

pub bounds-strip-3 : goal.bounds-strip-3
bounds-strip-3 c = omega (arith, header-counts (valid-holds c.requires).declares)

pub overflow_cast-version : goal.overflow_cast-version
overflow_cast-version c = omega (arith, (c.type_inv.strip 3).fits)

pub pass-len-requires : goal.pass-len-requires
pass-len-requires c = ready-to-count c.requires refl (starts-at c.start-start.ensures)

pub returns-then-out-len : goal.returns-then-out-len
returns-then-out-len c = too_small c.requires refl (starts-at c.start-start.ensures) c.pass-len.ensures c.if-out-len.true c.refused.ensures

pub slice_bounds-copy-end : goal.slice_bounds-copy-end
slice_bounds-copy-end c = header-long c.requires refl (starts-at c.start-start.ensures) c.pass-len.ensures c.if-out-len.false

pub copy-requires : goal.copy-requires
copy-requires c = header-fits c.requires refl (starts-at c.start-start.ensures) c.pass-len.ensures c.if-out-len.false

pub pass-requires : goal.pass-requires
pass-requires c = ready-to-write c.requires refl (starts-at c.start-start.ensures) c.pass-len.ensures c.if-out-len.false c.copy.ensures.1

pub returns : goal.returns
returns c =
    all-written c.requires refl (starts-at c.start-start.ensures) c.pass-len.ensures c.if-out-len.false c.copy.ensures.1
    c.pass.ensures
