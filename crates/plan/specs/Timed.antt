-- What a plan means with its due times and the greatest starts in time.
use Rattle.std.specs.Prelude.{ℕ}
use Rattle.marks.specs.declared.kind.Mark.{Ghosts}
use Rattle.schedules.specs.Nearing.{miss, largest}
use Rattle.schedules.specs.Plans.{Totals}
use Rattle.schedules.specs.Tables.{times}
use Rattle.plan.specs.Passing.{lags_of}
use Rattle.plan.specs.declared.calls.closest.timely.Timely.{Timely}

abbrev pub due_of : {T A : Type 0} {kind : Ghosts T A} → Timely T A kind → Totals
due_of {kind} plan = times kind.row plan.due.totals.now

abbrev pub best_of : {T A : Type 0} {kind : Ghosts T A} → Timely T A kind → Totals
best_of {kind} plan = times kind.row plan.starts.now

-- how far the finish of stage j from the greatest starts in time is from its due time
abbrev pub miss_of : {T A : Type 0} {kind : Ghosts T A} → Timely T A kind → ℕ → ℕ
miss_of plan = miss plan.table.stages (lags_of plan.table) (due_of plan) (best_of plan)

-- and the largest of these distances
abbrev pub largest_of : {T A : Type 0} {kind : Ghosts T A} → Timely T A kind → ℕ
largest_of plan = largest plan.table.stages (miss_of plan)
