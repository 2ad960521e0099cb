use Rattle.std.proofs.Common.{length, ◌/◌}
use Rattle.text.proofs.Appending.{Growing}
use Rattle.limits.specs.Limits.{slot}
use Rattle.gevurlat.specs.Text.{lines}
use Rattle.gevurlat.proofs.ascii.lines.Given as goal

abbrev pub invariant-loop-n : goal.invariant-loop-n
invariant-loop-n l = Growing (lines l.results) (length l.results / slot) l.initial.out l.at l.to l.out l.n
