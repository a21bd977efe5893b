use Rattle.std.proofs.Common.{rules, ◌≡◌, ℕ, ◌<◌, get_or, None, refl}
use Rattle.std.specs.Option.{option_map}
use Rattle.plan.proofs.Ends.{grants}
use Rattle.plan.proofs.FlowAnswer.{flow_schedulable, flow_written}
use Rattle.plan.proofs.calls.flow.flow_counted.Goals as goal

pub settle_within-requires-clause-schedule : goal.settle_within-requires-clause-schedule
settle_within-requires-clause-schedule c =
    flow_schedulable (λ a. refl) refl c.in_ok-table.ensures.answer c.least_flow-found.result c.least_flow-found.ensures.found

pub returns-clause-ends : goal.returns-clause-ends
returns-clause-ends c =
    let read = c.in_ok-table.ensures.answer in
    let copied : (e : ℕ) → e < c.in_ok-table.table.count → get_or c.turn_back.new.totals e None ≡ option_map (λ t. t.inner) (get_or c.settle_within.new.work.totals.now e None) = λ e l.
    let h = c.turn_back.ensures.0 e l in
    search rules in
    grants read _ c.in_ok-table.ensures.none_missed c.args.loop_row.now c.least_times.new.loop_row _ c.in_ok-least_times.ensures.solved (flow_written (λ a. refl) refl read c.least_flow-found.result c.least_flow-found.ensures.found c.settle_within.new.work.totals.now c.args.answer.now c.turn_back.new.totals c.settle_within.ensures.greatest (copied, c.turn_back.ensures.1))
