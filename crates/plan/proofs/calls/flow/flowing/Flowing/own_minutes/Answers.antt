use Rattle.std.proofs.Common.{rules, ◌≡◌, Some}
use Rattle.std.specs.Option.{option_map}
use Rattle.rows.specs.Limits.{lag_limit}
use Rattle.plan.specs.FlowSteps.{lasting}
use Rattle.plan.proofs.FlowPairs.{lag_inside, lag_is}
use Rattle.plan.proofs.calls.flow.flowing.Flowing.own_minutes.Goals as goal

pub returns-clause-is : goal.returns-clause-is
returns-clause-is g c =
    let K = g.K.Mark in
    let lag = c.in_ok-lag.lag in
    let is : option_map lasting c.lag_part.result ≡ Some (K.amount lag) = lag_is K.WIDTH (K.amount lag) c.lag_part.result (g.met.K.Mark.amount_wide lag) c.args.self.now.one c.lag_part.ensures in
    search rules

pub returns-clause-inside : goal.returns-clause-inside
returns-clause-inside g c =
    let K = g.K.Mark in
    let lag = c.in_ok-lag.lag in
    lag_inside K.WIDTH (K.amount lag) c.lag_part.result (g.met.K.Mark.amount_wide lag) c.args.self.now.one c.lag_part.ensures lag_limit (g.met.K.Mark.amount_limit lag)
