use Rattle.std.proofs.Common.{drop}
use Rattle.plan.specs.FlowSteps.{CountedTo}
use Rattle.plan.specs.Passing.{lags_of}
use Rattle.plan.proofs.calls.flow.flowing.Flowing.count_loop.Given as goal

abbrev pub invariant-loop-to : goal.invariant-loop-to
invariant-loop-to g l =
    CountedTo l.self.table.stages l.self.flow (lags_of l.self.table) l.first l.from l.to-index (drop l.to-index (drop 1 l.around)) l.tally
