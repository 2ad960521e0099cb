use mathlib.Core.Path.{refl, ap}
use Rattle.std.specs.Prelude.{Ok}
use native.Mathlib.Omega.{arith}
use Rattle.checker.proofs.Surveys.{survey-found}
use Rattle.run.proofs.Surveying.{survey-marks, survey-counts, survey-inside, checked-first, no_room, other-out, no-image, no_place, other-values, resumable, resumed}
use Rattle.run.proofs.resuming.resume.Goals as goal

pub returns-in-Err : goal.returns-in-Err
returns-in-Err c = checked-first c.in-Err.ensures c.args.mem.now c.args.results.now c.args.image.now c.args.budget refl

pub returns-then-mem-gt-MEMORY : goal.returns-then-mem-gt-MEMORY
returns-then-mem-gt-MEMORY c = no_room c.in-Ok.ensures c.args.mem.now c.args.results.now c.args.image.now c.args.budget refl _ c.refused.ensures c.if-mem-gt-MEMORY.true

pub bounds-strip-7 : goal.bounds-strip-7
bounds-strip-7 c = omega (arith, survey-counts c.in-Ok.ensures refl)

pub returns-then-results-strip : goal.returns-then-results-strip
returns-then-results-strip c = other-out c.in-Ok.ensures c.args.mem.now c.args.results.now c.args.image.now c.args.budget refl c.if-mem-gt-MEMORY.false _ c.refused-then-results-strip.ensures c.if-results-strip.true

pub returns-then-image-lt-BYTES : goal.returns-then-image-lt-BYTES
returns-then-image-lt-BYTES c = no-image c.in-Ok.ensures c.args.mem.now c.args.results.now c.args.image.now c.args.budget refl c.if-mem-gt-MEMORY.false c.if-results-strip.false _ c.refused-then-image-lt-BYTES.ensures c.if-image-lt-BYTES.true

pub returns-in_default : goal.returns-in_default
returns-in_default c = no_place c.in-Ok.ensures c.args.mem.now c.args.results.now c.args.image.now c.args.budget refl c.if-mem-gt-MEMORY.false c.if-results-strip.false c.if-image-lt-BYTES.false c.place_in-place.ensures _ c.refused-in_default.ensures c.in_default.is

pub bounds-strip-5 : goal.bounds-strip-5
bounds-strip-5 c = omega (arith, survey-counts c.in-Ok.ensures refl)

pub bounds-strip-6 : goal.bounds-strip-6
bounds-strip-6 c = omega (arith, survey-counts c.in-Ok.ensures refl)

pub slice_bounds-shows-end : goal.slice_bounds-shows-end
slice_bounds-shows-end c = omega (arith, survey-inside c.in-Ok.ensures refl)

pub returns-then-not-shows : goal.returns-then-not-shows
returns-then-not-shows c = other-values c.in-Ok.ensures c.args.mem.now c.args.results.now c.args.image.now c.args.budget refl c.if-mem-gt-MEMORY.false c.if-results-strip.false c.if-image-lt-BYTES.false c.place_in-place.ensures (survey-found c.in-Ok.ensures (ap Ok c.in-Some.is)) c.shows.ensures _ c.refused-then-not-shows.ensures c.if-not-shows.true

pub carry_on-requires : goal.carry_on-requires
carry_on-requires c =
    let n = survey-marks c.in-Ok.ensures (ap Ok c.in-Some.is) refl in
    resumable c.in-Ok.ensures c.args.mem.now c.args.results.now c.args.image.now c.args.budget refl c.if-mem-gt-MEMORY.false c.if-results-strip.false c.if-image-lt-BYTES.false c.place_in-place.ensures (survey-found c.in-Ok.ensures (ap Ok c.in-Some.is)) c.shows.ensures (λ k. (c.slice_known-1.given k).fits) c.if-not-shows.false n

pub returns : goal.returns
returns c = resumed c.if-mem-gt-MEMORY.false c.if-image-lt-BYTES.false c.carry_on.auto.image c.carry_on.ensures
