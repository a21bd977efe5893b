use Rattle.std.proofs.Common.{◌≡◌, ◌+◌, ◌*◌, ◌<◌, Bool, Decides, ◌∙◌, sym, ap, subst, arith}
use Rattle.std.specs.Option.{option_map}
use Rattle.schedules.specs.Tables.{lags, times}
use Rattle.plan.specs.Keeping.{Breaks}
use Rattle.plan.proofs.Broken.{arrived, breaks_none, breaks_less}
use Rattle.plan.proofs.calls.check.breaks.Goals as goal

pub returns-in_default : goal.returns-in_default
returns-in_default g c =
    let K = g.K.Mark in
    let table = c.args.table.now in
    let totals = c.args.totals.now in
    let inside : c.args.from < c.args.totals.now.count = omega (arith, c.requires) in
    let least = arrived K.amount K.row g.met.K.Mark.amount_limit table.count totals.count table.lags.now totals.totals.now c.args.to c.args.from c.nth.result c.lag.result c.sum_of.result totals.all inside c.nth.ensures c.lag.ensures c.sum_of.ensures.fits in
    breaks_none (lags K.amount table.count table.lags.now) (times K.row totals.totals.now) c.args.to c.args.from (sym least ∙ ap (option_map K.row) c.in_default.is)

pub returns : goal.returns
returns g c =
    let K = g.K.Mark in
    let table = c.args.table.now in
    let totals = c.args.totals.now in
    let inside : c.args.from < c.args.totals.now.count = omega (arith, c.requires) in
    let least = arrived K.amount K.row g.met.K.Mark.amount_limit table.count totals.count table.lags.now totals.totals.now c.args.to c.args.from c.nth.result c.lag.result c.sum_of.result totals.all inside c.nth.ensures c.lag.ensures c.sum_of.ensures.fits in
    let same : c.args.to ≡ 0 + 1 * c.args.to = omega arith in
    subst (λ (b : Bool). Decides b (Breaks (lags g.K.Mark.amount c.args.table.now.count c.args.table.now.lags.now) (times g.K.Mark.row c.args.totals.now.totals.now) c.args.to c.args.from)) (sym c.is_lt.ensures)
    (breaks_less (lags K.amount table.count table.lags.now) (times K.row totals.totals.now) c.args.to c.args.from c.order.result (K.row c.nth-2.result) (K.row c.in-Some.least) (ap (times K.row totals.totals.now) same ∙ c.nth-2.ensures) (sym least ∙ ap (option_map K.row) c.in-Some.is) c.order.ensures)
