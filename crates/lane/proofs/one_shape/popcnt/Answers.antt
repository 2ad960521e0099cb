-- Every byte of both words is counted.
use borrow.Author.Rules.{rules}
use native.Mathlib.Nat.{lt_of_le_of_lt}
use lib.Count.{ones, ones-le}
use lib.Dec.{lit<}
use Rattle.lane.specs.Inner.Words.{fieldwise}
use Rattle.lane.proofs.Laws.Words.{Stays, words-bytewise}
use Rattle.lane.proofs.one_shape.popcnt.Goals as goal

stays : Stays 8 ones
stays r l = lt_of_le_of_lt (ones-le 8 r l) (lit< tt)

pub returns : goal.returns
returns c =
    words-bytewise ones c.args.a.bytes _ stays (search rules) (c.lanewise1.ensures (fieldwise 8 8 ones) (λ x r p. search rules))
