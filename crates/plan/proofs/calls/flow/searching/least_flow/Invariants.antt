use Rattle.std.proofs.Common.{◌-◌, ◌≤◌}
use Rattle.rows.specs.Limits.{flow_limit}
use Rattle.plan.specs.FlowSteps.{FlowTried}
use Rattle.plan.specs.Passing.{lags_of}
use Rattle.solver.specs.Working.{SameRows}
use Rattle.plan.proofs.calls.flow.searching.least_flow.Given as goal

abbrev pub invariant-loop-len : goal.invariant-loop-len
invariant-loop-len g l =
    FlowTried l.table.stages (lags_of l.table) l.flow × (l.asked ≤ l.flow) × (1 ≤ l.flow → 1 ≤ l.asked) × SameRows l.work l.fn.work

abbrev pub decreases-loop-len : goal.decreases-loop-len
decreases-loop-len g l = flow_limit - l.flow
