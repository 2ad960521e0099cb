-- A place of a strip fits its 24 bits; then the number holds the run's answer.
use mathlib.Core.Option.{none}
use native.Mathlib.Omega.{arith}
use Rattle.run.specs.Run.{Runs}
use Rattle.run.proofs.Promises.{run_call, place-most}
use Rattle.doors.proofs.Reading.{called}
use Rattle.doors.proofs.gevurlat_run.Goals as goal

pub run_once-ran-requires : goal.run_once-ran-requires
run_once-ran-requires c = tt

pub pack-requires : goal.pack-requires
pack-requires c = omega (arith, place-most (run_call none (λ k. (c.slice_known-1.given k).fits)) c.run_once-ran.ensures (λ k. (c.type_inv.strip k).fits))

pub returns : goal.returns
returns c = let a = c.run_once-ran in called c.pack.result a.result c.pack.ensures (Runs _ _ _ _ none _) _ _ none a.ensures
