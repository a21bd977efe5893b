-- What is true of flows: a flow may be put into the lags of the plan.
use Rattle.std.specs.Prelude.{ℕ, ◌≤◌, ◌↔◌}
use Rattle.rows.specs.Rows.{Row}
use Rattle.schedules.specs.Answers.{GreatestTimes}
use Rattle.schedules.specs.Flows.{with_flow, WithinFlow, Flow}
use Rattle.schedules.specs.Plans.{Lags, Totals, Wide, Schedule, Schedulable}
use Rattle.schedules.specs.Tables.{events}

-- Of the plans with a flow in their lags: that with f has a schedule, none with less has one, and y
-- are the greatest times of that with f.
pub record LeastSchedulable (n : ℕ) (L : Lags) (f : ℕ) (y : Totals) : Type 0 where
  pub schedulable : Schedulable 1 (events n) (with_flow f L)
  pub least : (g : ℕ) → Schedulable 1 (events n) (with_flow g L) → f ≤ g
  pub times : GreatestTimes 1 (events n) (with_flow f L) y

-- The schedules within a flow are those of the plan with the flow in its lags, and so the flow is
-- the least with which that plan has a schedule.
pub record FlowsAreLags : Type 0 where
  pub schedule : (n : ℕ) (L : Lags) (f : ℕ) (x : ℕ → Row) → Wide 1 (events n) L
      → WithinFlow n L f x ↔ Schedule 1 (events n) (with_flow f L) x
  pub flow : (n : ℕ) (L : Lags) (f : ℕ) (y : Totals) → Wide 1 (events n) L
      → Flow n L f y ↔ LeastSchedulable n L f y
