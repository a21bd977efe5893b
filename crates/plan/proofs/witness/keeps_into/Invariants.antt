use Rattle.std.proofs.Common.{ℕ, ◌<◌}
use Rattle.schedules.specs.Tables.{times}
use Rattle.plan.specs.Passing.{lags_of}
use Rattle.plan.specs.Witness.{Kept}
use Rattle.plan.proofs.witness.keeps_into.Given as goal

abbrev pub invariant-loop-from : goal.invariant-loop-from
invariant-loop-from g l =
    (u : ℕ) → u < l.from → Kept (times g.K.Mark.row l.totals l.to) (times g.K.Mark.row l.totals u) (lags_of l.table l.to u)
