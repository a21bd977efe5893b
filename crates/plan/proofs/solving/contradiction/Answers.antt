use Rattle.std.proofs.Common.{refl}
use Rattle.schedules.proofs.Meanings.{lags_wide}
use Rattle.solver.proofs.Cells.{times_sized}
use Rattle.plan.proofs.Kept.{keep_schedulable}
use Rattle.plan.proofs.solving.contradiction.Goals as goal

pub returns-then-keep_all-clause-sought : goal.returns-then-keep_all-clause-sought
returns-then-keep_all-clause-sought g c =
    let K = g.K.Mark in
    let table = c.args.table.now in
    (keep_schedulable _ _ _ _ (times_sized K.WIDTH table.count K.row g.met.K.Mark.row_wide c.args.work.now.totals.now) (c.keep_all.ensures c.if-keep_all.true) (lags_wide K.WIDTH K.amount g.met.K.Mark.amount_wide table.count table.count table.lags.now) table.some, refl)
