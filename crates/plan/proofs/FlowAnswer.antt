-- The greatest times within the least flow, and what the call answers.
use Rattle.std.proofs.Common.{◌≡◌, ℕ, zero, suc, ◌≤◌, List, length, get_or, None, Option, sym, subst, subst₂, arith}
use Rattle.std.specs.Option.{option_map}
use Rattle.rows.specs.Rows.{negated, Within}
use Rattle.rows.specs.Limits.{lag_limit}
use Rattle.rows.proofs.Options.{none_or_some}
use Rattle.marks.specs.declared.kind.Mark.{Ghosts}
use Rattle.marks.specs.declared.turned.Turned.{Turned}
use Rattle.schedules.specs.Answers.{LeastTimes, GreatestTime, GreatestTimes}
use Rattle.schedules.specs.Flows.{Flow, with_flow}
use Rattle.schedules.specs.Plans.{Lags, Totals, Wide, Schedulable, reversed}
use Rattle.schedules.specs.Tables.{events, times, Overwritten}
use Rattle.schedules.proofs.Flows.{greatest_from as within}
use Rattle.schedules.proofs.Mirrored.{mirrored_schedulable}
use Rattle.solver.proofs.FlowNets.{flow_net}
use Rattle.plan.specs.Calls.{RowWritten, flow_checks, lags_in}
use Rattle.plan.specs.Checks.{first_missed}
use Rattle.plan.specs.FlowSteps.{LeastFound, flowing_lags}
use Rattle.plan.specs.Passing.{PlanRead, lags_of}
use Rattle.plan.specs.declared.calls.flow.FlowFound.{FlowFound}
use Rattle.plan.specs.declared.calls.flow.flowing.Flowing.{Flowing}
use Rattle.plan.specs.declared.table.Table.{Table}
use Rattle.plan.proofs.Copying.{copied_inner}
use Rattle.plan.proofs.Ends.{at_call}
use Rattle.plan.proofs.FlowSearch.{table_wide, within_schedulable}
use Rattle.plan.proofs.Mirroring.{greatest_from}

module _ {T A : Type 0} {kind : Ghosts T A} (broad : (a : A) → length (kind.amount a) ≡ kind.WIDTH) (small : (a : A) → Within lag_limit (kind.amount a)) (plan : Flowing T A kind) where
  abbrev m : ℕ
  m = plan.table.count

  wide : Wide kind.WIDTH m (flowing_lags plan)
  wide = (flow_net kind.WIDTH m plan.flow kind.amount plan.table.lags.now broad small plan.one plan.table.some plan.table.few plan.inside).wide

  pub reversed_schedulable : Schedulable kind.WIDTH m (flowing_lags plan) → Schedulable kind.WIDTH m (reversed (flowing_lags plan))
  reversed_schedulable = (mirrored_schedulable kind.WIDTH m (flowing_lags plan) wide).0

  pub greatest_settled : (turned : List (Option (Turned T))) → LeastTimes kind.WIDTH m (reversed (flowing_lags plan)) (times (λ t. negated (kind.row t.inner)) turned)
      → GreatestTimes kind.WIDTH m (flowing_lags plan) (times (λ t. kind.row t.inner) turned)
  greatest_settled = greatest_from kind.WIDTH m (flowing_lags plan) wide kind.row

flow_is : (n m w : ℕ) (L : Lags) (y : Totals) (found : FlowFound) → w ≡ 1 → m ≡ events n → Wide 1 (events n) L → LeastFound n L found → GreatestTimes w m (with_flow found.flow L) y → Flow n L found.flow y
flow_is n m w L y found one laid wide least greatest = record {
  reached = least.reached;
  least = least.tried.least;
  times = λ e e_in. within n L wide found.flow e (y e) (subst₂ (λ (v k : ℕ). GreatestTimes v k (with_flow found.flow L) y) one laid greatest e e_in);
}

module _ {T A : Type 0} {kind : Ghosts T A} (broad : (a : A) → length (kind.amount a) ≡ kind.WIDTH) (one : kind.WIDTH ≡ 1) {n : ℕ} {table : List (Option A)} {rows : List ℕ} {plan : Table T A kind} (read : PlanRead n table rows plan) (found : FlowFound) (least : LeastFound plan.stages (lags_of plan) found) where
  pub flow_schedulable : Schedulable kind.WIDTH plan.count (with_flow found.flow (lags_of plan))
  flow_schedulable = within_schedulable plan.stages plan.count kind.WIDTH (lags_of plan) one plan.laid (table_wide broad one plan) found.flow least.reached

  pub flow_written : (turned : List (Option (Turned T))) (answer after : List (Option T)) → GreatestTimes kind.WIDTH plan.count (with_flow found.flow (lags_of plan)) (times (λ t. kind.row t.inner) turned)
      → Overwritten (λ e. option_map (λ t. t.inner) (get_or turned e None)) plan.count answer after
      → RowWritten kind n (Flow n (lags_in kind n table) found.flow) answer after
  flow_written turned answer after greatest copied = record {
    written = at_call read (λ m L. Flow n L found.flow (times kind.row after)) (subst (λ (k : ℕ). Flow k (lags_of plan) found.flow (times kind.row after)) read.stages flow);
    rest = rw (sym read.laid.count) copied.1;
  }
    where
      times_copied : GreatestTimes kind.WIDTH plan.count (with_flow found.flow (lags_of plan)) (times kind.row after)
      times_copied = copied_inner kind.row (GreatestTime kind.WIDTH plan.count (with_flow found.flow (lags_of plan))) plan.count (λ t. t.inner) turned answer after copied greatest

      flow : Flow plan.stages (lags_of plan) found.flow (times kind.row after)
      flow = flow_is plan.stages plan.count kind.WIDTH (lags_of plan) (times kind.row after) found one plan.laid (table_wide broad one plan) least times_copied

-- a plan that passed the checks has a stage
pub some_stages : (n len : ℕ) (rows : List ℕ) → first_missed (flow_checks n len rows) ≡ None → 1 ≤ n
some_stages zero len rows h = none_or_some _ (sym h)
some_stages (suc n) len rows h = omega arith
