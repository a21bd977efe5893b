-- What the checks hand on: a table, and a row of totals, that passed them.
use Rattle.std.specs.Prelude.{◌≡◌, ℕ, List, length, Option}
use Rattle.marks.specs.declared.kind.Mark.{Ghosts}
use Rattle.schedules.specs.Plans.{Lags}
use Rattle.schedules.specs.Tables.{lags}
use Rattle.plan.specs.Checks.{Check, Laid, LongEnough}
use Rattle.plan.specs.Endings.{Needs}
use Rattle.plan.specs.declared.table.Table.{Table}

-- the plan read has so many stages and that table, and every row has a place for each of its events
pub record PlanRead {T A : Type 0} {kind : Ghosts T A}
    (n : ℕ) (table : List (Option A)) (rows : List ℕ) (plan : Table T A kind) : Type 0 where
  pub stages : plan.stages ≡ n
  pub laid : Laid n (length table) plan.count
  pub lags : plan.lags.now ≡ table
  pub long : LongEnough plan.count rows

-- what the lags of a plan's table mean
abbrev pub lags_of : {T A : Type 0} {kind : Ghosts T A} → Table T A kind → Lags
lags_of {kind} plan = lags kind.amount plan.count plan.lags.now

-- what a call at the plan's table needs that has these checks, with the loop row before and after
abbrev pub needs_of :
    {T A : Type 0} {kind : Ghosts T A} → Table T A kind → List Check
    → (loop_row loop_after : List ℕ) → Needs
needs_of {kind} plan checks loop_row loop_after = record {
  checks = checks;
  width = kind.WIDTH;
  count = plan.count;
  lags = lags_of plan;
  loop_row = loop_row;
  loop_after = loop_after;
}
