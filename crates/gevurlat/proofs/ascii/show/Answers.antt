-- The row, and after DONE the results.
use native.Mathlib.Omega.{arith}
use Rattle.gevurlat.proofs.Showing.{place-room, steps-room, lines-room, row-alone, with-lines}
use Rattle.gevurlat.proofs.ascii.show.Goals as goal

pub number-after_place-requires : goal.number-after_place-requires
number-after_place-requires c =
    place-room c.args.a (omega arith) (omega arith) (omega arith) c.args.results.now c.requires c.number-after_code.ensures

pub number-after_steps-requires : goal.number-after_steps-requires
number-after_steps-requires c =
    steps-room c.args.a (omega arith) (omega arith) (omega arith) c.args.results.now c.requires c.number-after_code.ensures c.number-after_place.ensures

pub returns-then-a-ne-DONE : goal.returns-then-a-ne-DONE
returns-then-a-ne-DONE c =
    let both = row-alone c.args.a (omega arith) (omega arith) (omega arith) c.args.results.now c.requires c.number-after_code.ensures
    c.number-after_place.ensures c.number-after_steps.ensures c.if-a-ne-DONE.true in
    record { prefix_len = both.0; shown = both.1 }

pub lines-requires : goal.lines-requires
lines-requires c =
    lines-room c.args.a (omega arith) (omega arith) (omega arith) c.args.results.now c.requires c.number-after_code.ensures c.number-after_place.ensures
    c.number-after_steps.ensures

pub returns : goal.returns
returns c =
    let both = with-lines c.args.a (omega arith) (omega arith) (omega arith) c.args.results.now c.requires c.number-after_code.ensures
    c.number-after_place.ensures c.number-after_steps.ensures c.if-a-ne-DONE.false c.lines.ensures in
    record { prefix_len = both.0; shown = both.1 }
