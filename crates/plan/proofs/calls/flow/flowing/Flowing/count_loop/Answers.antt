use Rattle.std.proofs.Common.{drop, get_or, ap, arith}
use Rattle.std.proofs.lemmas.List.{length-drop}
use Rattle.plan.specs.FlowSteps.{flowing_lags}
use Rattle.plan.specs.Passing.{lags_of}
use Rattle.plan.proofs.FlowLoops.{at_end, closed, inside_wider, loop_some, moved_on, others_whole}
use Rattle.plan.proofs.FlowSearch.{schedule_laid, table_wide}
use Rattle.plan.proofs.calls.flow.flowing.Flowing.count_loop.Goals as goal

pub count_lag-tally-requires-clause-inside : goal.count_lag-tally-requires-clause-inside
count_lag-tally-requires-clause-inside g c =
    inside_wider _ _ c.loop-to.tally (omega (arith, c.requires.few, c.loop-to-test.true)) c.loop-to.invariant.inside

pub loop-to-preserved : goal.loop-to-preserved
loop-to-preserved g c =
    let plan = c.args.self.now in
    let around = c.args.around.now in
    let i = c.loop-to.to-index in
    let wide = table_wide g.met.K.Mark.amount_wide plan.one plan.table in
    moved_on plan.table.stages plan.flow (lags_of plan.table) wide (get_or around 0 0) c.loop-to.from i _ (drop 1 around) c.loop-to.tally c.count_lag-tally.result (ap (λ xs. get_or xs i 0) (others_whole around)) (omega (arith, length-drop 1 around, c.loop-to-test.true)) c.loop-to.invariant c.count_lag-tally.ensures

pub count_lag-requires-clause-inside : goal.count_lag-requires-clause-inside
count_lag-requires-clause-inside g c =
    let plan = c.args.self.now in
    let some = loop_some g.K.Mark.WIDTH plan.table.count (flowing_lags plan) c.args.around.now c.requires.closed in
    inside_wider _ _ c.loop-to.tally (omega (arith, c.requires.few, some, c.loop-to.auto.to-index-end)) c.loop-to.invariant.inside

pub returns : goal.returns
returns g c =
    let plan = c.args.self.now in
    let around = c.args.around.now in
    let n = plan.table.stages in
    let L = lags_of plan.table in
    let first = get_or around 0 0 in
    let wide = table_wide g.met.K.Mark.amount_wide plan.one plan.table in
    let some = loop_some g.K.Mark.WIDTH plan.table.count (flowing_lags plan) around c.requires.closed in
    let schedule = schedule_laid n plan.table.count g.K.Mark.WIDTH L plan.one plan.table.laid L c.requires.schedule in
    let whole = at_end n plan.flow L wide first c.loop-to.from c.loop-to.to-index (drop 1 around) c.loop-to.tally (omega (arith, length-drop 1 around, c.loop-to-test.false)) c.loop-to.invariant in
    closed n plan.flow L wide first c.loop-to.from c.loop-to.to-index c.loop-to.tally c.count_lag.result (omega (arith, c.requires.few, some, c.loop-to.auto.to-index-end)) schedule whole c.count_lag.ensures
