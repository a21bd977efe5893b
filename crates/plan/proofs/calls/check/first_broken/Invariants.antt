use Rattle.std.proofs.Common.{ℕ, ◌<◌}
use Rattle.schedules.specs.Tables.{lags, times}
use Rattle.plan.specs.Keeping.{Breaks}
use Rattle.plan.proofs.calls.check.first_broken.Given as goal

abbrev pub invariant-loop-to : goal.invariant-loop-to
invariant-loop-to g l =
    (v u : ℕ) → v < l.to → u < l.table.count → Breaks (lags g.K.Mark.amount l.table.count l.table.lags.now) (times g.K.Mark.row l.totals.totals.now) v u → ⊥

abbrev pub invariant-loop-from : goal.invariant-loop-from
invariant-loop-from g l =
    (u : ℕ) → u < l.from → Breaks (lags g.K.Mark.amount l.table.count l.table.lags.now) (times g.K.Mark.row l.totals.totals.now) l.to u → ⊥
