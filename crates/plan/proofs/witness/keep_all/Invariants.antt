use Rattle.std.proofs.Common.{ℕ, ◌<◌}
use Rattle.schedules.specs.Tables.{times}
use Rattle.plan.specs.Passing.{lags_of}
use Rattle.plan.specs.Witness.{KeepInto}
use Rattle.plan.proofs.witness.keep_all.Given as goal

abbrev pub invariant-loop-to : goal.invariant-loop-to
invariant-loop-to g l =
    (v : ℕ) → v < l.to → KeepInto l.table.count (lags_of l.table) (times g.K.Mark.row l.totals) v
