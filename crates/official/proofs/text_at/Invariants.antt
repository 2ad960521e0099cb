use Rattle.std.proofs.Common.{length}
use Rattle.official.proofs.text_at.Given as goal

abbrev pub decreases-loop-line : goal.decreases-loop-line
decreases-loop-line l = length l.line.text.now
