use Rattle.std.proofs.Common.{◌≤◌, length}
use Rattle.cases.proofs.reading.from.Given as goal

abbrev pub invariant-loop : goal.invariant-loop
invariant-loop l = length l.fields.rest.now ≤ length l.line
