use Rattle.plan.proofs.FlowAnswer.{greatest_settled, reversed_schedulable}
use Rattle.plan.proofs.calls.flow.searching.settle_within.Goals as goal

pub settle-requires-clause-schedule : goal.settle-requires-clause-schedule
settle-requires-clause-schedule g c = reversed_schedulable g.met.K.Mark.amount_wide g.met.K.Mark.amount_limit c.args.plan.now c.requires.schedule

pub returns-clause-greatest : goal.returns-clause-greatest
returns-clause-greatest g c = greatest_settled g.met.K.Mark.amount_wide g.met.K.Mark.amount_limit c.args.plan.now c.settle.new.work.totals.now c.settle.ensures.least
