use native.Mathlib.Omega.{arith}
use Rattle.rules.proofs.Onward.{declared}
use Rattle.run.proofs.HeaderBytes.{counts-read, local-count}
use Rattle.run.proofs.Keeping.{none_kept}
use Rattle.run.proofs.Beginning.{args_fit, may-begin, begins}
use Rattle.run.proofs.Pausing.{stop-deep, paused-left}
use borrow.Author.Rules.{rules}
use Rattle.run.proofs.running.drive.Goals as goal

pub bounds-strip-5 : goal.bounds-strip-5
bounds-strip-5 c = omega (arith, counts-read (declared c.requires.valid.reached))

pub bounds-strip-6 : goal.bounds-strip-6
bounds-strip-6 c = omega (arith, counts-read (declared c.requires.valid.reached))

pub locals_of-locals-requires : goal.locals_of-locals-requires
locals_of-locals-requires c = args_fit c.requires

pub bounds-strip-7 : goal.bounds-strip-7
bounds-strip-7 c = omega (arith, counts-read (declared c.requires.valid.reached))

pub go_on-stop-requires : goal.go_on-stop-requires
go_on-stop-requires c =
    let counts = counts-read (declared c.requires.valid.reached) in (
      may-begin c.requires (λ k. c.slice_known-1.given k) c.locals_of-locals.ensures.0 (omega (arith, c.locals_of-locals.ensures.1, counts.body)),
      none_kept _,
    )

pub pause-requires : goal.pause-requires
pause-requires c =
    let counts = counts-read (declared c.requires.valid.reached) in
    let went = c.go_on-stop.ensures c.requires.valid _ (begins c.requires (λ k. c.slice_known-1.given k) c.locals_of-locals.ensures.0 (omega (arith, c.locals_of-locals.ensures.1, counts.body))) in
    (omega (arith, counts), search rules, search rules, stop-deep went)

pub returns : goal.returns
returns c =
    let counts = counts-read (declared c.requires.valid.reached) in
    let went = c.go_on-stop.ensures c.requires.valid _ (begins c.requires (λ k. c.slice_known-1.given k) c.locals_of-locals.ensures.0 (omega (arith, c.locals_of-locals.ensures.1, counts.body))) in
    record { ready = c.requires; same = paused-left went _ (local-count (declared c.requires.valid.reached)) _ _ c.pause.ensures }
