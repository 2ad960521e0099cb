use mathlib.Core.Option.{some}
use native.Mathlib.Omega.{arith}
use Rattle.run.specs.Run.{Runs}
use Rattle.run.proofs.Promises.{run_call, place-most}
use Rattle.doors.proofs.Reading.{called}
use Rattle.doors.proofs.gevurlat_start.Goals as goal

pub pack-requires : goal.pack-requires
pack-requires c = omega (arith, place-most (run_call (some _) (λ k. (c.slice_known-1.given k).fits)) c.run-started.ensures (λ k. (c.type_inv.strip k).fits))

pub returns : goal.returns
returns c = called c.pack.result c.run-started.result c.pack.ensures (Runs _ _ _ _ (some _) _) _ _ _ c.run-started.ensures
