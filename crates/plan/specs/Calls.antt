-- How each call ends, for every input, and the list of its checks. (What earliest, latest, finish,
-- backward, closest and flow answer in the algebra stands in Answers and Theorems of algebra, latest
-- as earliest in Mirror, flow as latest in FlowTheorems of schedules; in clauses of their own.)
-- `kind` says what lags and totals mean, n is the number of stages, `rows` has the number of places
-- of each row that the call is lent.
use Rattle.std.specs.Prelude.{◌≡◌, ℕ, ◌+◌, ◌≤◌, max, List, [], ◌∷◌, ◌++◌, length, replicate, drop, ℤ, Some, None, Option, Result, slice_set}
use Rattle.std.specs.Option.{option_map}
use Rattle.marks.specs.declared.kind.Mark.{Ghosts}
use Rattle.rows.specs.Limits.{flow_limit, most_stages}
use Rattle.schedules.specs.Answers.{LeastTimes, GreatestTimes, Spread}
use Rattle.schedules.specs.Closest.{Closest}
use Rattle.schedules.specs.Flows.{Flow}
use Rattle.schedules.specs.Plans.{Lags, Totals, with_lag}
use Rattle.schedules.specs.Starts.{Finishes, Backward}
use Rattle.schedules.specs.Tables.{events, places, place, OfStage, Cleared, lags, times}
use Rattle.plan.specs.Checks.{Check, head_checks, event_check, stage_check, lag_check, totals_check, served_check}
use Rattle.plan.specs.Endings.{Ended, Needs, Solved}
use Rattle.plan.specs.Keeping.{FirstBroken}
use Rattle.plan.specs.Waiting.{Waiting}
use Rattle.plan.specs.declared.calls.flow.FlowFound.{FlowFound}
use Rattle.plan.specs.declared.fault.PlanFault.{PlanFault}

-- what the table of n stages means
abbrev pub lags_in : {T A : Type 0} → Ghosts T A → ℕ → List (Option A) → Lags
lags_in kind n table = lags kind.amount (events n) table

-- An answer row: X holds of the times in its first places, one for each event, and the places past
-- them are as they were.
pub record RowWritten {T A : Type 0}
    (kind : Ghosts T A) (n : ℕ) (X : Totals → Type 0) (row after : List (Option T)) : Type 0 where
  pub written : X (times kind.row after)
  pub rest : drop (events n) after ≡ drop (events n) row

-- What a call needs of the plan of the table that has these checks, with the loop row before and
-- after.
abbrev pub needs_in :
    {T A : Type 0} → Ghosts T A → ℕ → List (Option A) → List Check → (loop_row loop_after : List ℕ)
    → Needs
needs_in kind n table checks loop_row loop_after = record {
  checks = checks;
  width = kind.WIDTH;
  count = events n;
  lags = lags_in kind n table;
  loop_row = loop_row;
  loop_after = loop_after;
}

-- open

abbrev pub open_checks : ℕ → ℕ → List Check
open_checks n len = head_checks most_stages n len []

-- every place is empty
abbrev pub OpenEnds :
    {A : Type 0} → ℕ → (table after : List (Option A)) → Result (Unit {0}) PlanFault → Type 0
OpenEnds n table after r =
    Ended (open_checks n (length table))
    (λ _. after ≡ replicate (places n) None)
    (after ≡ table) r

-- set

abbrev pub set_checks : ℕ → ℕ → ℕ → List ℕ → ℕ → ℕ → List ℤ → List Check
set_checks w n len rows to from parts =
    head_checks most_stages n len rows ++ (event_check n (max to from) ∷ lag_check w parts ∷ [])

-- the lag made of the numbers is at its place, and every other place is as it was
pub record LagPut {T A : Type 0}
    (kind : Ghosts T A) (n to from : ℕ) (parts : List ℤ) (table after : List (Option A))
    : Type 0 where
  pub lag : A
  pub meaning : kind.amount lag ≡ parts
  pub put : after ≡ slice_set table (place (events n) to from) (Some lag)

-- it needs a schedule of the plan as it would be with the lag, whatever the table was before
abbrev pub SetEnds :
    {T A : Type 0} → Ghosts T A → ℕ → (table after : List (Option A)) → (to from : ℕ) → List ℤ
    → (rows loop_row loop_after : List ℕ) → Result (Unit {0}) PlanFault → Type 0
SetEnds kind n table after to from parts rows loop_row loop_after r =
    Solved (record {
      checks = set_checks kind.WIDTH n (length table) rows to from parts;
      width = kind.WIDTH;
      count = events n;
      lags = with_lag (lags_in kind n table) to from parts;
      loop_row = loop_row;
      loop_after = loop_after;
    })
    (λ _. LagPut kind n to from parts table after)
    (after ≡ table) r

-- drop

abbrev pub drop_checks : ℕ → ℕ → ℕ → ℕ → List Check
drop_checks n len to from = head_checks most_stages n len [] ++ (event_check n (max to from) ∷ [])

-- the place of the pair is empty, and every other place is as it was
abbrev pub DropEnds :
    {A : Type 0} → ℕ → (to from : ℕ) → (table after : List (Option A))
    → Result (Unit {0}) PlanFault → Type 0
DropEnds n to from table after r =
    Ended (drop_checks n (length table) to from)
    (λ _. after ≡ slice_set table (place (events n) to from) None)
    (after ≡ table) r

-- void

abbrev pub void_checks : ℕ → ℕ → ℕ → List Check
void_checks n len stage = head_checks most_stages n len [] ++ (stage_check n stage ∷ [])

-- the places to and from the stage's two events are empty, and every other place is as it was
abbrev pub VoidEnds :
    {A : Type 0} → ℕ → (stage : ℕ) → (table after : List (Option A))
    → Result (Unit {0}) PlanFault → Type 0
VoidEnds n stage table after r =
    Ended (void_checks n (length table) stage)
    (λ _. Cleared (events n) (OfStage stage) table after)
    (after ≡ table) r

-- earliest and latest

abbrev pub earliest_checks : ℕ → ℕ → List ℕ → List Check
earliest_checks n len rows = head_checks most_stages n len rows

abbrev pub latest_checks : ℕ → ℕ → List ℕ → List Check
latest_checks = earliest_checks

-- the times that X asks for stand in the first places, and the places past them are as they were
abbrev pub TimesWritten :
    {T A : Type 0} → (ℕ → ℕ → Lags → Totals → Type 0) → Ghosts T A → ℕ → List (Option A)
    → (answer after : List (Option T)) → Type 0
TimesWritten X kind n table answer after =
    RowWritten kind n (X kind.WIDTH (events n) (lags_in kind n table)) answer after

-- They are written; the call has these checks, and needs a schedule of the plan.
abbrev pub TimesEnd :
    {T A : Type 0} → (ℕ → ℕ → Lags → Totals → Type 0) → List Check → Ghosts T A → ℕ
    → List (Option A) → (answer after : List (Option T)) → (loop_row loop_after : List ℕ)
    → Result (Unit {0}) PlanFault → Type 0
TimesEnd X checks kind n table answer after loop_row loop_after r =
    Solved (needs_in kind n table checks loop_row loop_after)
    (λ _. TimesWritten X kind n table answer after)
    (after ≡ answer) r

-- earliest: each event's least time over all schedules
abbrev pub EarliestEnds :
    {T A : Type 0} → Ghosts T A → ℕ → List (Option A) → (answer after : List (Option T))
    → (rows loop_row loop_after : List ℕ) → Result (Unit {0}) PlanFault → Type 0
EarliestEnds kind n table answer after rows loop_row loop_after r =
    TimesEnd LeastTimes (earliest_checks n (length table) rows) kind n table answer after
    loop_row loop_after r

-- latest: each event's greatest time over all schedules
abbrev pub LatestEnds :
    {T A : Type 0} → Ghosts T A → ℕ → List (Option A) → (answer after : List (Option T))
    → (rows loop_row loop_after : List ℕ) → Result (Unit {0}) PlanFault → Type 0
LatestEnds kind n table answer after rows loop_row loop_after r =
    TimesEnd GreatestTimes (latest_checks n (length table) rows) kind n table answer after
    loop_row loop_after r

-- spread

abbrev pub spread_checks : ℕ → ℕ → List ℕ → ℕ → List Check
spread_checks n len rows event = head_checks most_stages n len rows ++ (event_check n event ∷ [])

-- the least and the greatest time of one event
abbrev pub SpreadEnds :
    {T A : Type 0} → Ghosts T A → ℕ → List (Option A) → (event : ℕ)
    → (rows loop_row loop_after : List ℕ) → Result (Option T × Option T) PlanFault → Type 0
SpreadEnds kind n table event rows loop_row loop_after r =
    Solved (needs_in kind n table (spread_checks n (length table) rows event) loop_row loop_after)
    (λ pair. Spread kind.WIDTH (events n) (lags_in kind n table) event
    (option_map kind.row pair.0) (option_map kind.row pair.1))
    (Unit {0}) r

-- waiting

abbrev pub waiting_checks : ℕ → ℕ → ℕ → List Check
waiting_checks n len event = head_checks most_stages n len [] ++ (event_check n event ∷ [])

-- the other events that a chain of lags from the event reaches, and how many
abbrev pub WaitingEnds :
    {T A : Type 0} → Ghosts T A → ℕ → List (Option A) → (event : ℕ)
    → Result (ℕ × ℕ) PlanFault → Type 0
WaitingEnds kind n table event r =
    Ended (waiting_checks n (length table) event)
    (Waiting (events n) (lags_in kind n table) event)
    (Unit {0}) r

-- check

abbrev pub check_checks : ℕ → ℕ → ℕ → Totals → List Check
check_checks n len row x =
    head_checks most_stages n len (row ∷ []) ++ (totals_check x 0 1 (events n) ∷ [])

-- the first lag in the order of the table that the times break, or none
abbrev pub CheckEnds :
    {T A : Type 0} → Ghosts T A → ℕ → List (Option A) → (totals : List (Option T))
    → Result (Option (ℕ × ℕ)) PlanFault → Type 0
CheckEnds kind n table totals r =
    Ended (check_checks n (length table) (length totals) (times kind.row totals))
    (FirstBroken (events n) (lags_in kind n table) (times kind.row totals))
    (Unit {0}) r

-- finish

abbrev pub finish_checks : ℕ → ℕ → List ℕ → Totals → List Check
finish_checks n len rows x = head_checks most_stages n len rows ++ (totals_check x 1 2 n ∷ [])

-- the finishes of the starts
abbrev pub FinishEnds :
    {T A : Type 0} → Ghosts T A → ℕ → List (Option A) → (starts finishes after : List (Option T))
    → Result (Unit {0}) PlanFault → Type 0
FinishEnds kind n table starts finishes after r =
    Ended (finish_checks n (length table) (length starts ∷ length finishes ∷ [])
    (times kind.row starts))
    (λ _. RowWritten kind n (Finishes n (lags_in kind n table) (times kind.row starts))
    finishes after)
    (after ≡ finishes) r

-- backward

abbrev pub backward_checks : ℕ → ℕ → List ℕ → Totals → List Check
backward_checks n len rows d = head_checks most_stages n len rows ++ (totals_check d 2 2 n ∷ [])

-- the greatest starts in time for the due times
abbrev pub BackwardEnds :
    {T A : Type 0} → Ghosts T A → ℕ → List (Option A) → (due starts after : List (Option T))
    → Result (Unit {0}) PlanFault → Type 0
BackwardEnds kind n table due starts after r =
    Ended (backward_checks n (length table) (length due ∷ length starts ∷ []) (times kind.row due))
    (λ _. RowWritten kind n (Backward kind.WIDTH n (lags_in kind n table) (times kind.row due))
    starts after)
    (after ≡ starts) r

-- closest

abbrev pub closest_checks : ℕ → ℕ → List ℕ → Totals → Lags → List Check
closest_checks n len rows d L =
    head_checks most_stages n len rows ++ (totals_check d 2 2 n ∷ served_check n L ∷ [])

-- the starts whose finishes come closest to the due times, and their distance
abbrev pub ClosestEnds :
    {T A : Type 0} → Ghosts T A → ℕ → List (Option A) → (due starts after : List (Option T))
    → Result ℕ PlanFault → Type 0
ClosestEnds kind n table due starts after r =
    Ended (closest_checks n (length table) (length due ∷ length starts ∷ [])
    (times kind.row due) (lags_in kind n table))
    (λ e. RowWritten kind n (λ y. Closest n (lags_in kind n table) (times kind.row due) y e)
    starts after)
    (after ≡ starts) r

-- flow

abbrev pub flow_checks : ℕ → ℕ → List ℕ → List Check
flow_checks = earliest_checks

-- the least flow that some schedule is within, and each event's greatest time over those schedules
abbrev pub FlowEnds :
    {T A : Type 0} → Ghosts T A → ℕ → List (Option A) → (answer after : List (Option T))
    → (rows loop_row loop_after : List ℕ) → Result ℕ PlanFault → Type 0
FlowEnds kind n table answer after rows loop_row loop_after r =
    Solved (needs_in kind n table (flow_checks n (length table) rows) loop_row loop_after)
    (λ f. RowWritten kind n (Flow n (lags_in kind n table) f) answer after)
    (after ≡ answer) r

-- Of a flow with a count: it is within its limit, and the count is 1 to one more than the flow, and
-- not 1 where the flow is not 0. (That it counts the numbers that were tried is no promise.)
pub record FlowCounted (found : FlowFound) : Type 0 where
  pub inside : found.flow ≤ flow_limit
  pub some : 1 ≤ found.asked
  pub more : 1 ≤ found.flow → 2 ≤ found.asked
  pub few : found.asked ≤ found.flow + 1
