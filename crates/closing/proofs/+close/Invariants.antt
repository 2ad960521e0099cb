-- From one instruction to the next, and into blocks with less room: the search is the same from each place on.
use Rattle.std.proofs.Common.{length, ◌-◌, ◌≡◌}
use Rattle.closing.specs.Search.{end_of}
use Rattle.closing.proofs.+close.Given as goal

abbrev pub decreases-close : goal.decreases-close
decreases-close l = l.room

abbrev pub invariant-loop-at : goal.invariant-loop-at
invariant-loop-at l = end_of l.fn.s l.fn.room l.fn.start ≡ end_of l.fn.s l.fn.room l.at

abbrev pub decreases-loop-at : goal.decreases-loop-at
decreases-loop-at l = length l.fn.s - l.at
