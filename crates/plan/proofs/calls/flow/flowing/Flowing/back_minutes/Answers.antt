use Rattle.std.proofs.Common.{◌≡◌, to_z, of_z, w64, arith}
use Rattle.std.proofs.lemmas.Int.{ints}
use Rattle.rows.proofs.Limits.{flow_totals, relations}
use Rattle.plan.specs.FlowSteps.{less_flow}
use Rattle.plan.proofs.FlowPairs.{flow_fits, later_within}
use Rattle.plan.proofs.calls.flow.flowing.Flowing.back_minutes.Goals as goal

pub returns-clause-inside : goal.returns-clause-inside
returns-clause-inside g c =
    let plan = c.args.self.now in
    let fits = flow_fits plan.flow plan.inside in
    let is = c.opposite.ensures in
    let stored : to_z w64 (of_z w64 c.opposite.result) ≡ less_flow plan.flow = omega (arith, ints) in
    let within = later_within plan.flow c.own_minutes.result _ c.later_number.result plan.inside c.own_minutes.ensures.inside stored c.later_number.ensures in
    let low = within.0.0 in
    let high = within.0.1 in
    let near = flow_totals in
    let far = relations.machine in
    ((omega (arith, ints), omega (arith, ints)), tt)
