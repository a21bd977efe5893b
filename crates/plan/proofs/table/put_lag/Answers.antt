use Rattle.std.proofs.Common.{sym, arith}
use Rattle.std.proofs.lemmas.List.{set_past}
use Rattle.schedules.specs.Tables.{place}
use Rattle.plan.proofs.table.put_lag.Goals as goal

pub returns-else-at-table : goal.returns-else-at-table
returns-else-at-table g c few to from =
    let e = c.place_of-at.ensures few to from in
    sym (set_past c.args.table.now (place c.args.count c.args.to c.args.from) c.args.lag (omega arith))
