use Rattle.schedules.proofs.Mirrored.{mirrored_schedulable}
use Rattle.schedules.proofs.Meanings.{lags_wide}
use Rattle.plan.proofs.Mirroring.{greatest_from}
use Rattle.plan.proofs.solving.settle_greatest.Goals as goal

pub settle-requires-clause-schedule : goal.settle-requires-clause-schedule
settle-requires-clause-schedule g c =
    let table = c.args.table.now in
    let wide = lags_wide g.K.Mark.WIDTH g.K.Mark.amount g.met.K.Mark.amount_wide table.count table.count table.lags.now in
    (mirrored_schedulable _ _ _ wide).0 c.requires.schedules

pub returns-clause-greatest : goal.returns-clause-greatest
returns-clause-greatest g c =
    let table = c.args.table.now in
    let wide = lags_wide g.K.Mark.WIDTH g.K.Mark.amount g.met.K.Mark.amount_wide table.count table.count table.lags.now in
    greatest_from _ _ _ wide g.K.Mark.row c.settle.new.work.totals.now c.settle.ensures.least
