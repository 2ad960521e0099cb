-- The invariant is one record for each configuration that the arrays may hold (`Driving.Drives`), and that the ends kept are true; each need of the
-- loop cites one law.
use Rattle.rules.specs.Strip.{Valid}
use Rattle.standard.specs.Standard.{Config}
use Rattle.run.specs.Inner.Carried.{open_in, Carries}
use Rattle.run.specs.Inner.Ends.{Kept}
use Rattle.run.proofs.Driving.{Drives}
use Rattle.run.proofs.running.go_on.Given as goal

abbrev pub invariant-loop-left : goal.invariant-loop-left
invariant-loop-left l = ((v : Valid l.strip) (c₀ : Config) → Carries l.strip v.header c₀ l.place l.values (open_in l.initial.marks) l.initial.stack l.initial.marks l.initial.locals l.initial.mem
    → Drives l.strip v c₀ l.initial.mem l.initial.results l.budget l.mem l.results l.stack l.marks l.locals l.at l.depth (open_in l.marks) l.left) × Kept l.strip l.ends

abbrev pub decreases-loop-left : goal.decreases-loop-left
decreases-loop-left l = l.left
