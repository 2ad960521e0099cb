use borrow.Author.Rules.{rules}
use borrow.Author.Tests.{ltb-true}
use lib.Dec.{ltb}
use Rattle.operation.specs.Shape.{i8x16}
use Rattle.operation.specs.Vector.{lane}
use Rattle.operation.proofs.Laws.Scan.{all-each}
use Rattle.lane.proofs.lanes.choosing.gather.Goals as goal

pub each_lane-requires : goal.each_lane-requires
each_lane-requires c i l =
    let v = c.args.s.bytes in
    (l, ltb-true (lane i8x16 v i) 32 (all-each 16 i (λ n. ltb (lane i8x16 v n) 32) c.requires l), search rules, search rules, search rules)
