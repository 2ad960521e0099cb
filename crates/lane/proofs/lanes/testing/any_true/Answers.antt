-- The 128-bit number is zero where its two halves are.
use borrow.Author.Rules.{rules}
use Rattle.lane.proofs.Laws.Any.{some-low, some-high, none}
use Rattle.operation.specs.Vector.{Sixteen}
use Rattle.lane.proofs.lanes.testing.any_true.Goals as goal

pub returns-then-get-ne0 : goal.returns-then-get-ne0
returns-then-get-ne0 c =
    let v = c.args.a.bytes in let s : Sixteen v = search rules in
    some-low v s c.get.ensures c.if-get-ne0.true

pub returns-then-get-ne0-2 : goal.returns-then-get-ne0-2
returns-then-get-ne0-2 c =
    let v = c.args.a.bytes in let s : Sixteen v = search rules in
    some-high v s c.get-2.ensures c.if-get-ne0-2.true

pub returns : goal.returns
returns c =
    let v = c.args.a.bytes in let s : Sixteen v = search rules in
    none v s c.get.ensures c.get-2.ensures c.if-get-ne0.false c.if-get-ne0-2.false
