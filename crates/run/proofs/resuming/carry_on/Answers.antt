use mathlib.Core.Path.{refl}
use native.Mathlib.Omega.{arith}
use Rattle.run.proofs.Keeping.{none_kept}
use Rattle.run.proofs.Restoring.{few-held, carries-on, may-go-on}
use Rattle.run.proofs.Pausing.{stop-deep, paused-left}
use borrow.Author.Rules.{rules}
use Rattle.run.proofs.resuming.carry_on.Goals as goal

pub go_on-stop-requires : goal.go_on-stop-requires
go_on-stop-requires c = (may-go-on c.requires (λ k. c.slice_known-1.given k) c.slots_in-2.ensures c.slots_in.ensures refl, none_kept _)

pub pause-requires : goal.pause-requires
pause-requires c =
    let went = c.go_on-stop.ensures c.requires.valid c.requires.config (carries-on c.requires (λ k. c.slice_known-1.given k) c.slots_in-2.ensures c.slots_in.ensures refl) in
    (omega (arith, few-held c.requires), search rules, search rules, stop-deep went)

pub returns : goal.returns
returns c =
    let went = c.go_on-stop.ensures c.requires.valid c.requires.config (carries-on c.requires (λ k. c.slice_known-1.given k) c.slots_in-2.ensures c.slots_in.ensures refl) in
    record { ready = c.requires; same = paused-left went _ c.requires.counted _ _ c.pause.ensures }
