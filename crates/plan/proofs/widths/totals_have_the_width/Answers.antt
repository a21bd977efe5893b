use Rattle.schedules.proofs.Meanings.{times_wide}
use Rattle.plan.proofs.widths.totals_have_the_width.Goals as goal

pub returns : goal.returns
returns g c = λ n. times_wide g.K.Mark.WIDTH g.K.Mark.row g.met.K.Mark.row_wide n c.args.totals.now
