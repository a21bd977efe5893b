use Rattle.std.proofs.Common.{arith}
use Rattle.plan.specs.Passing.{lags_of}
use Rattle.rows.proofs.Limits.{flow_totals, relations}
use Rattle.plan.proofs.FlowSearch.{reached, table_wide}
use Rattle.plan.proofs.calls.flow.searching.least_flow.Goals as goal

pub overflow_add-asked : goal.overflow_add-asked
overflow_add-asked g c =
    let tried = c.loop-len.invariant.0.inside in
    omega (arith, c.loop-len.invariant.1, flow_totals, relations.machine)

pub returns-in_default-clause-found : goal.returns-in_default-clause-found
returns-in_default-clause-found g c =
    let table = c.args.table.now in
    let wide = table_wide g.met.K.Mark.amount_wide c.requires.one table in
    record {
      tried = c.loop-len.invariant.0;
      reached = reached table.stages table.count g.K.Mark.WIDTH (lags_of table) c.requires.one table.laid wide c.loop-len.flow c.in_default.ensures.sought.0;
      counted = record {
        inside = c.loop-len.invariant.0.inside;
        some = omega (arith, c.loop-len.invariant.1);
        more = λ some. omega (arith, c.loop-len.invariant.2 some);
        few = omega (arith, c.loop-len.invariant.1);
      };
    }
