-- The walk, and what was known when it stood at the place.
use native.Mathlib.Omega.{arith}
use Rattle.checker.specs.Survey.{misses}
use Rattle.checker.proofs.Held.{held-long}
use Rattle.checker.proofs.Nests.{nested-many}
use Rattle.checker.proofs.Same.{err-told}
use Rattle.checker.proofs.Findings.{refused, nowhere-live, found_here}
use Rattle.checker.proofs.place.survey.Goals as goal

pub returns-in_err-h : goal.returns-in_err-h
returns-in_err-h c = refused (err-told c.from_residual.ensures) c.in_err-h.ensures

pub returns-in_err-walked : goal.returns-in_err-walked
returns-in_err-walked c = refused (err-told c.from_residual-in_err-walked.ensures) c.in_err-walked.ensures.says

pub returns-in_default : goal.returns-in_default
returns-in_default c =
    misses c.in_ok-walked.ensures.says (λ fs x l. c.in_ok-walked.ensures.stood.nowhere c.in_default.is c.in_ok-walked.ensures.says fs x)

pub is_dead-requires : goal.is_dead-requires
is_dead-requires c =
    let k = c.in_ok-walked.ensures.stood.known c.in-Some.there c.in-Some.is in
    (omega (arith, nested-many k.going.framed.nested, k.going.framed.within.blocks), k.going.blocks_long)

pub returns-then-is_dead : goal.returns-then-is_dead
returns-then-is_dead c =
    let k = c.in_ok-walked.ensures.stood.known c.in-Some.there c.in-Some.is in
    let v = c.in_ok-walked.ensures.says in
    misses v (nowhere-live k (c.is_dead.ensures _ _ _ k.going.framed.nested) c.if-is_dead.true v)

pub put_kinds-requires : goal.put_kinds-requires
put_kinds-requires c =
    let k = c.in_ok-walked.ensures.stood.known c.in-Some.there c.in-Some.is in
    (omega (arith, held-long k.going.framed.holds, k.going.kinds_long), k.going.kinds_long, c.put_kinds-arg-1.given.0.1)

pub put_marks-requires : goal.put_marks-requires
put_marks-requires c =
    let k = c.in_ok-walked.ensures.stood.known c.in-Some.there c.in-Some.is in (
      omega (arith, nested-many k.going.framed.nested, k.going.framed.within.blocks),
      k.going.blocks_long,
      k.bodies_long,
      c.put_marks-arg-1.given.0.1,
    )

pub returns : goal.returns
returns c =
    let k = c.in_ok-walked.ensures.stood.known c.in-Some.there c.in-Some.is in
    found_here k c.in_ok-walked.ensures.says ((c.is_dead.ensures _ _ _ k.going.framed.nested).live c.if-is_dead.false)
    c.put_kinds.ensures (c.put_marks.ensures _ _ _ _ k.going.framed.nested k.many k.noted)
