use Rattle.std.proofs.Common.{refl, inr}
use Rattle.schedules.specs.Tables.{lags}
use Rattle.plan.proofs.Refusing.{loop_refuses}
use Rattle.plan.proofs.solving.least_times.Goals as goal

pub returns-in-Some-clause-solved : goal.returns-in-Some-clause-solved
returns-in-Some-clause-solved g c =
    let t = c.args.table.now in
    let L = lags g.K.Mark.amount t.count t.lags.now in
    inr (record {
      none_missed = refl;
      no_schedule = loop_refuses g.K.Mark.WIDTH t.count L c.args.loop_row.now c.find_least.new.loop_row c.in-Some.len c.in-Some.ensures.sought;
      len = c.in-Some.len;
      fault_is = refl;
      shown = c.in-Some.ensures.sought;
      kept = tt;
    })
