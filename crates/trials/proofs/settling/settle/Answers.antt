use Rattle.std.proofs.Common.{rules}
use Rattle.rows.specs.Limits.{lag_limit}
use Rattle.solver.proofs.Nets.{table_limited}
use Rattle.trials.proofs.settling.settle.Goals as goal

pub settle_from-requires-clause-leaves : goal.settle_from-requires-clause-leaves
settle_from-requires-clause-leaves g c =
    record { limit = lag_limit; limited = table_limited g.K.Mark.amount g.met.K.Mark.amount_limit c.args.count c.args.places.now; leaves = c.leave_room.ensures (search rules) }
