use Rattle.std.proofs.Common.{rules, ◌+◌, ◌*◌, ◌<◌, length, arith}
use Rattle.std.proofs.lemmas.Grind.{common_steps}
use Rattle.plan.proofs.table.Table.lag.Goals as goal

pub offset_bounds-self-to : goal.offset_bounds-self-to
offset_bounds-self-to g c =
    let table = c.args.self.now in
    let inside : c.args.to * table.count + c.args.from < length table.lags.now = grind (arith, common_steps) in
    search rules
