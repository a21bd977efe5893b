use Rattle.std.proofs.Common.{◌≡◌, to_z, of_z, w64, arith}
use Rattle.std.proofs.lemmas.Int.{ints}
use Rattle.plan.specs.Passing.{lags_of}
use Rattle.plan.proofs.FlowLoops.{next_of, sum_inside}
use Rattle.plan.proofs.FlowSearch.{table_wide}
use Rattle.plan.proofs.calls.flow.flowing.Flowing.next_flow.Goals as goal

pub returns : goal.returns
returns g c =
    let plan = c.args.self.now in
    let L = lags_of plan.table in
    let wide = table_wide g.met.K.Mark.amount_wide plan.one plan.table in
    let tally = c.count_loop-tally.result in
    let inside = sum_inside plan.table.stages plan.flow L tally c.count_loop-tally.ensures in
    let low = inside.0 in
    let high = inside.1 in
    let e : to_z w64 (of_z w64 c.count_loop-tally.result.sum) ≡ c.count_loop-tally.result.sum = omega (arith, ints) in
    next_of plan.table.stages plan.flow L wide tally (to_z w64 (of_z w64 c.count_loop-tally.result.sum)) c.div_ceil.result e c.div_ceil.ensures c.count_loop-tally.ensures
