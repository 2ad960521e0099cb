-- Out of the strip, to a loop, or past the `end` of a block (`Leading`).
use mathlib.Core.Path.{refl}
use native.Mathlib.Omega.{arith}
use Rattle.run.proofs.Leading.{counts, results-there, leaves-strip, below-nest, k-small, k-inside, loops, closable, leaves-bare, deep-enough, leaves-with}
use Rattle.run.proofs.blocks.branch.Goals as goal

pub bounds-strip-7 : goal.bounds-strip-7
bounds-strip-7 c = omega (arith, counts c.requires.0.valid c.requires.0.leads)

pub overflow_sub-result : goal.overflow_sub-result
overflow_sub-result c = omega (arith, results-there c.requires.0.valid c.requires.0.leads c.if-index-nest.true)

pub returns-then-index-nest : goal.returns-then-index-nest
returns-then-index-nest c = (λ v σ ls locals mem L. leaves-strip v L c.if-index-nest.true _, c.requires.1)

pub overflow_sub-k : goal.overflow_sub-k
overflow_sub-k c = omega (arith, below-nest c.requires.0.valid c.requires.0.leads c.if-index-nest.false)

pub overflow_sub-k-2 : goal.overflow_sub-k-2
overflow_sub-k-2 c = omega (arith, below-nest c.requires.0.valid c.requires.0.leads c.if-index-nest.false)

pub overflow_mul-height : goal.overflow_mul-height
overflow_mul-height c =
    omega (
      arith,
      k-small c.requires.0.valid c.requires.0.leads c.if-index-nest.false refl,
      k-inside c.requires.0.valid c.requires.0.leads
          c.if-index-nest.false refl,
    )

pub offset_bounds-marks-k : goal.offset_bounds-marks-k
offset_bounds-marks-k c =
    omega (
      arith,
      k-small c.requires.0.valid c.requires.0.leads c.if-index-nest.false refl,
      k-inside c.requires.0.valid c.requires.0.leads
          c.if-index-nest.false refl,
    )

pub bounds-marks-k : goal.bounds-marks-k
bounds-marks-k c =
    omega (
      arith,
      k-small c.requires.0.valid c.requires.0.leads c.if-index-nest.false refl,
      k-inside c.requires.0.valid
          c.requires.0.leads c.if-index-nest.false refl,
    )

pub overflow_mul-way : goal.overflow_mul-way
overflow_mul-way c =
    omega (
      arith,
      k-small c.requires.0.valid c.requires.0.leads c.if-index-nest.false refl,
      k-inside c.requires.0.valid
          c.requires.0.leads c.if-index-nest.false refl,
    )

pub overflow_add-way : goal.overflow_add-way
overflow_add-way c =
    omega (
      arith,
      k-small c.requires.0.valid c.requires.0.leads c.if-index-nest.false refl,
      k-inside c.requires.0.valid
          c.requires.0.leads c.if-index-nest.false refl,
    )

pub offset_bounds-marks-k-2 : goal.offset_bounds-marks-k-2
offset_bounds-marks-k-2 c =
    omega (
      arith,
      k-small c.requires.0.valid c.requires.0.leads c.if-index-nest.false refl,
      k-inside c.requires.0.valid
          c.requires.0.leads c.if-index-nest.false refl,
    )

pub bounds-marks-k-2 : goal.bounds-marks-k-2
bounds-marks-k-2 c =
    omega (
      arith,
      k-small c.requires.0.valid c.requires.0.leads c.if-index-nest.false refl,
      k-inside c.requires.0.valid
          c.requires.0.leads c.if-index-nest.false refl,
    )

pub overflow_mul-body : goal.overflow_mul-body
overflow_mul-body c =
    omega (
      arith,
      k-small c.requires.0.valid c.requires.0.leads c.if-index-nest.false refl,
      k-inside c.requires.0.valid
          c.requires.0.leads c.if-index-nest.false refl,
    )

pub overflow_add-body : goal.overflow_add-body
overflow_add-body c =
    omega (
      arith,
      k-small c.requires.0.valid c.requires.0.leads c.if-index-nest.false refl,
      k-inside c.requires.0.valid
          c.requires.0.leads c.if-index-nest.false refl,
    )

pub offset_bounds-marks-k-3 : goal.offset_bounds-marks-k-3
offset_bounds-marks-k-3 c =
    omega (
      arith,
      k-small c.requires.0.valid c.requires.0.leads c.if-index-nest.false refl,
      k-inside c.requires.0.valid
          c.requires.0.leads c.if-index-nest.false refl,
    )

pub bounds-marks-k-3 : goal.bounds-marks-k-3
bounds-marks-k-3 c =
    omega (
      arith,
      k-small c.requires.0.valid c.requires.0.leads c.if-index-nest.false refl,
      k-inside c.requires.0.valid
          c.requires.0.leads c.if-index-nest.false refl,
    )

pub returns-then-way-eq-LOOP : goal.returns-then-way-eq-LOOP
returns-then-way-eq-LOOP c = (λ v σ ls locals mem L. loops v L c.if-index-nest.false refl c.if-way-eq-LOOP.true, c.requires.1)

pub overflow_sub-k-3 : goal.overflow_sub-k-3
overflow_sub-k-3 c =
    omega (
      arith,
      k-small c.requires.0.valid c.requires.0.leads c.if-index-nest.false refl,
      k-inside c.requires.0.valid
          c.requires.0.leads c.if-index-nest.false refl,
    )

pub end_of-next-requires : goal.end_of-next-requires
end_of-next-requires c = (closable c.requires.0.valid c.requires.0.leads c.if-index-nest.false refl, c.requires.1)

pub returns-then-way-eq0 : goal.returns-then-way-eq0
returns-then-way-eq0 c = (
  λ v σ ls locals mem L. leaves-bare v L c.if-index-nest.false refl c.if-way-eq-LOOP.false c.end_of-next.result
      c.end_of-next.ensures.0 c.if-way-eq0.true,
  c.end_of-next.ensures.1,
)

pub overflow_sub-depth : goal.overflow_sub-depth
overflow_sub-depth c =
    omega (
      arith,
      deep-enough c.requires.0.valid c.requires.0.leads c.if-index-nest.false refl c.if-way-eq-LOOP.false
          c.end_of-next.result c.end_of-next.ensures.0 c.if-way-eq0.false,
    )

pub carry-requires : goal.carry-requires
carry-requires c =
    let e = deep-enough c.requires.0.valid c.requires.0.leads c.if-index-nest.false refl c.if-way-eq-LOOP.false
    c.end_of-next.result c.end_of-next.ensures.0 c.if-way-eq0.false in
    (omega (arith, e), omega (arith, e), e.3)

pub overflow_add-result-2 : goal.overflow_add-result-2
overflow_add-result-2 c =
    omega (
      arith,
      deep-enough c.requires.0.valid c.requires.0.leads c.if-index-nest.false refl c.if-way-eq-LOOP.false
          c.end_of-next.result c.end_of-next.ensures.0 c.if-way-eq0.false,
    )

pub returns : goal.returns
returns c = (
  λ v σ ls locals mem L. leaves-with v L c.if-index-nest.false refl c.if-way-eq-LOOP.false c.end_of-next.result
      c.end_of-next.ensures.0 c.if-way-eq0.false c.carry.ensures,
  c.end_of-next.ensures.1,
)
