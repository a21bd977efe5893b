use Rattle.schedules.proofs.Meanings.{lags_wide}
use Rattle.plan.proofs.widths.amounts_have_the_width.Goals as goal

pub returns : goal.returns
returns g c = λ n. lags_wide g.K.Mark.WIDTH g.K.Mark.amount g.met.K.Mark.amount_wide n c.args.count c.args.table.now
