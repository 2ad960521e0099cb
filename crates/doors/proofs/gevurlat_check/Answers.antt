-- A place of a strip fits its 24 bits; then the number holds the check's answer.
use native.Mathlib.Omega.{arith}
use Rattle.checker.proofs.Exact.{place-most}
use Rattle.doors.proofs.Reading.{checked}
use Rattle.doors.proofs.gevurlat_check.Goals as goal

pub check-verdict-requires : goal.check-verdict-requires
check-verdict-requires c = tt

pub pack-requires : goal.pack-requires
pack-requires c = omega (arith, place-most (λ k. (c.type_inv.strip k).fits) c.check-verdict.ensures)

pub returns : goal.returns
returns c = let a = c.check-verdict in checked c.pack.result a.result c.pack.ensures a.ensures
