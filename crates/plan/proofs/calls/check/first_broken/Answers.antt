use Rattle.schedules.specs.Tables.{lags, times}
use Rattle.plan.specs.Keeping.{Breaks}
use Rattle.plan.proofs.Broken.{none_earlier}
use Rattle.plan.proofs.calls.check.first_broken.Goals as goal

pub returns-then-breaks : goal.returns-then-breaks
returns-then-breaks g c =
    let table = c.args.table.now in
    let B = Breaks (lags g.K.Mark.amount table.count table.lags.now) (times g.K.Mark.row c.args.totals.now.totals.now) in
    ((c.loop-to-test.true, c.loop-from-test.true), (c.breaks.ensures.0 c.if-breaks.true, none_earlier B table.count c.loop-to.to c.loop-from.from c.loop-to.invariant c.loop-from.invariant c.loop-from-test.true))
