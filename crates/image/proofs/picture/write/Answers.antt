-- Nothing without room; else the parts one after the other.
use mathlib.Core.Path.{sym}
use Rattle.image.proofs.Painting.{painted-none, painted-many, painted-high, painted-parts}
use Rattle.image.proofs.picture.write.Goals as goal

pub returns-then-image-lt-BYTES : goal.returns-then-image-lt-BYTES
returns-then-image-lt-BYTES c =
    let a = c.args in
    sym (painted-none a.place a.depth a.locals.now a.stack.now a.image.now c.if-image-lt-BYTES.true)

pub returns-then-locals-gt-LOCAL_BYTES : goal.returns-then-locals-gt-LOCAL_BYTES
returns-then-locals-gt-LOCAL_BYTES c =
    let a = c.args in
    sym (painted-many a.place a.depth a.locals.now a.stack.now a.image.now c.if-image-lt-BYTES.false c.if-locals-gt-LOCAL_BYTES.true)

pub returns-then-stack-gt-STACK_BYTES : goal.returns-then-stack-gt-STACK_BYTES
returns-then-stack-gt-STACK_BYTES c =
    let a = c.args in
    sym
    (painted-high a.place a.depth a.locals.now a.stack.now a.image.now c.if-image-lt-BYTES.false c.if-locals-gt-LOCAL_BYTES.false c.if-stack-gt-STACK_BYTES.true)

pub returns : goal.returns
returns c =
    let a = c.args in
    painted-parts a.place a.depth a.locals.now a.stack.now a.image.now c.if-image-lt-BYTES.false c.if-locals-gt-LOCAL_BYTES.false
    c.if-stack-gt-STACK_BYTES.false c.front-front.result c.front-front.ensures c.copy.ensures.1 c.fill.ensures
    c.fill-2.ensures
