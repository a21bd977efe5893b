use Rattle.std.proofs.Common.{arith}
use Rattle.std.proofs.lemmas.Int.{ints}
use Rattle.plan.proofs.FlowPairs.{flow_fits}
use Rattle.plan.proofs.calls.flow.numbers.opposite.Goals as goal

pub overflow_cast-result : goal.overflow_cast-result
overflow_cast-result c =
    let fits = flow_fits c.args.flow c.requires in
    omega (arith, ints)

pub overflow_sub-result : goal.overflow_sub-result
overflow_sub-result c =
    let fits = flow_fits c.args.flow c.requires in
    omega (arith, ints)

pub returns : goal.returns
returns c =
    let fits = flow_fits c.args.flow c.requires in
    omega (arith, ints)
