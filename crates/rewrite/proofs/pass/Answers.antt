use native.Mathlib.Omega.{arith}
use Rattle.rewrite.proofs.Passing.{begins, passes, goes_on, stays, adds, begins-inside, adds-len, counts-on, writes-on}
use Rattle.rewrite.proofs.pass.Goals as goal

pub loop-at-init : goal.loop-at-init
loop-at-init c = begins c.requires

pub overflow_add-at : goal.overflow_add-at
overflow_add-at c =
    let p = c.loop-at.invariant in
    let t = c.loop-at-test.true in
    omega (arith, stays p t c.decode-d.ensures)

pub slice_bounds-encode-count : goal.slice_bounds-encode-count
slice_bounds-encode-count c =
    let p = c.loop-at.invariant in
    let t = c.loop-at-test.true in
    begins-inside p t c.decode-d.ensures c.if-writing.true

pub slice_bounds-encode-start : goal.slice_bounds-encode-start
slice_bounds-encode-start c =
    let p = c.loop-at.invariant in
    let t = c.loop-at-test.true in
    begins-inside p t c.decode-d.ensures c.if-writing.true

pub overflow_add-to : goal.overflow_add-to
overflow_add-to c =
    let p = c.loop-at.invariant in
    let t = c.loop-at-test.true in
    omega (
      arith,
      c.well_formed.1.0.0,
      adds p t c.decode-d.ensures (adds-len p t c.decode-d.ensures c.if-writing.true c.encode-e.ensures.answer c.encode-e.ensures.bytes),
    )

pub loop-at-smaller-then-writing : goal.loop-at-smaller-then-writing
loop-at-smaller-then-writing c =
    let p = c.loop-at.invariant in
    let t = c.loop-at-test.true in
    omega (arith, goes_on p t c.decode-d.ensures)

pub loop-at-preserved-then-writing : goal.loop-at-preserved-then-writing
loop-at-preserved-then-writing c =
    let p = c.loop-at.invariant in
    let t = c.loop-at-test.true in
    writes-on p t c.decode-d.ensures c.if-writing.true c.encode-e.ensures.answer c.encode-e.ensures.bytes

pub overflow_add-to-else-writing : goal.overflow_add-to-else-writing
overflow_add-to-else-writing c =
    let p = c.loop-at.invariant in
    let t = c.loop-at-test.true in
    omega (arith, adds p t c.decode-d.ensures c.encoded_len-to.ensures)

pub loop-at-smaller : goal.loop-at-smaller
loop-at-smaller c =
    let p = c.loop-at.invariant in
    let t = c.loop-at-test.true in
    omega (arith, goes_on p t c.decode-d.ensures)

pub loop-at-preserved : goal.loop-at-preserved
loop-at-preserved c =
    let p = c.loop-at.invariant in
    let t = c.loop-at-test.true in
    counts-on p t c.decode-d.ensures c.if-writing.false c.encoded_len-to.ensures

pub shape_of-out : goal.shape_of-out
shape_of-out c = c.loop-at.invariant.long

pub returns : goal.returns
returns c = passes c.loop-at.invariant c.loop-at-test.false
