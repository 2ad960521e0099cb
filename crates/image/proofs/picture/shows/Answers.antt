-- One question after the other; the stack's answer is the whole's.
use Rattle.image.proofs.Showing.{not-long, not-few, not-deep, not-fronts, not-locals, shown-told}
use Rattle.image.proofs.picture.shows.Goals as goal

pub returns-then-image-lt-BYTES : goal.returns-then-image-lt-BYTES
returns-then-image-lt-BYTES c = let a = c.args in not-long a.image.now a.locals.now a.stack.now c.if-image-lt-BYTES.true

pub returns-then-locals : goal.returns-then-locals
returns-then-locals c = let a = c.args in not-few a.image.now a.locals.now a.stack.now c.if-locals.true

pub returns-then-depth-gt-STACK : goal.returns-then-depth-gt-STACK
returns-then-depth-gt-STACK c = let a = c.args in not-deep a.image.now a.locals.now a.stack.now c.if-depth-gt-STACK.true

pub returns-then-not-fronts : goal.returns-then-not-fronts
returns-then-not-fronts c =
    let a = c.args in
    not-fronts a.image.now a.locals.now a.stack.now c.fronts.ensures c.if-not-fronts.true

pub returns-then-not-rooms : goal.returns-then-not-rooms
returns-then-not-rooms c =
    let a = c.args in
    not-locals a.image.now a.locals.now a.stack.now c.rooms.ensures c.if-not-rooms.true

pub returns : goal.returns
returns c =
    let a = c.args in
    shown-told a.image.now a.locals.now a.stack.now c.if-image-lt-BYTES.false (λ k. c.type_inv.image k)
    c.if-locals.false c.if-depth-gt-STACK.false c.fronts.ensures c.if-not-fronts.false
    c.rooms.ensures c.if-not-rooms.false c.rooms-2.ensures
