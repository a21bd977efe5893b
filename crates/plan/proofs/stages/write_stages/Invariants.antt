use Rattle.plan.specs.Filling.{Staged}
use Rattle.plan.proofs.stages.write_stages.Given as goal

abbrev pub invariant-loop-stage : goal.invariant-loop-stage
invariant-loop-stage g l = Staged (goal.F-post g l.times_of) l.stage l.fn.row l.row
