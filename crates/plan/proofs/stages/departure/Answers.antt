use Rattle.std.proofs.Common.{rules, get_or, None}
use Rattle.schedules.specs.Tables.{times, place}
use Rattle.plan.proofs.Fits.{fits_taken}
use Rattle.plan.proofs.stages.departure.Goals as goal

pub returns : goal.returns
returns g c =
    let K = g.K.Mark in
    let fits = fits_taken K.amount g.met.K.Mark.amount_limit (times K.row c.args.totals.now c.args.to) (get_or c.args.table.now.lags.now (place c.args.table.now.count c.args.to c.args.from) None) c.requires.2 in
    search rules
