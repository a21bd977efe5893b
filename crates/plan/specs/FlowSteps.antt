-- The steps to the flow: which lag counts between two events of a plan with a flow in its lags, and
-- what a loop of these lags says of all flows.
use Rattle.std.specs.Prelude.{◌≡◌, ℕ, ◌+◌, ◌-◌, ◌*◌, ◌<◌, ◌≤◌, ◌⊎◌, ◌↔◌, true, List, [], ◌∷◌, ℤ, pos, ◌+ℤ◌, neg_ℤ, ◌≤ℤ◌, ◌<ℤ◌, Some, None, Option, slice_index}
use Rattle.std.specs.Int.{bit_at}
use Rattle.rows.specs.Limits.{flow_limit, lag_limit, most_events}
use Rattle.rows.specs.Rows.{Row, Within}
use Rattle.schedules.specs.Flows.{EndsWithin, WithinFlow, back_over_stage, with_flow}
use Rattle.schedules.specs.Minutes.{minute}
use Rattle.schedules.specs.Plans.{Lags, Schedule, Chain}
use Rattle.schedules.specs.Tables.{events}
use Rattle.plan.specs.Calls.{FlowCounted}
use Rattle.plan.specs.Passing.{lags_of}
use Rattle.plan.specs.declared.calls.flow.FlowFound.{FlowFound}
use Rattle.plan.specs.declared.calls.flow.flowing.Flowing.{Flowing}
use Rattle.plan.specs.declared.calls.flow.counting.Tally.{Tally}
use Rattle.marks.specs.declared.kind.Mark.{Ghosts}

-- the lags of a plan with its flow among them
abbrev pub flowing_lags : {T A : Type 0} {kind : Ghosts T A} → Flowing T A kind → Lags
flowing_lags plan = with_flow plan.flow (lags_of plan.table)

-- so many minutes, before or after zero
abbrev pub lasting : ℤ → Row
lasting z = z ∷ []

-- a flow with its sign changed
abbrev pub less_flow : ℕ → ℤ
less_flow f = neg_ℤ (pos f)

-- The lag that counts to v from u, of the lags L with the flow f among them: the plan's own, of so
-- many minutes; or none of the plan's, and so that of the flow.
abbrev pub CountsAt : ℕ → Lags → ℕ → ℕ → Option ℤ → Type 0
CountsAt f L v u None =
    (back_over_stage v u ≡ true) × (with_flow f L v u ≡ Some (lasting (less_flow f)))
CountsAt f L v u (Some a) = (L v u ≡ Some (lasting a)) × (with_flow f L v u ≡ Some (lasting a))

-- at one of n stages: v is `to` and u is `from`, each as much further as the stage
abbrev pub AtStage : ℕ → (to from : ℕ) → (v u : ℕ) → Type 0
AtStage n to from v u = (k : ℕ) × (k < n) × (v ≡ to + 2 * k) × (u ≡ from + 2 * k)

-- The words have what they had, and a lag to `to` from `from`, and so at each further stage of n.
abbrev pub StagesNoted : ℕ → (to from : ℕ) → (words after : List ℕ) → Type 0
StagesNoted n to from words after =
    (v u : ℕ) → u < most_events
    → (bit_at (slice_index after u) v ≡ 1)
    ↔ ((bit_at (slice_index words u) v ≡ 1) ⊎ AtStage n to from v u)

-- One lag more is counted, to v from u.
abbrev pub OneMore : ℕ → Lags → ℕ → ℕ → Tally → Tally → Type 0
OneMore f L v u old new =
    (CountsAt f L v u None × (new.added ≡ old.added + 1) × (new.sum ≡ old.sum))
    ⊎ ((a : ℤ) × CountsAt f L v u (Some a) × Within lag_limit (lasting a)
    × (new.added ≡ old.added) × (new.sum ≡ old.sum +ℤ a))

-- the minute of an event
abbrev pub minute_at : (ℕ → Row) → ℕ → ℤ
minute_at x v = minute (Some (x v))

-- In every schedule of the plan that ends its stages within g, v comes at least the sum after the
-- first event, less g for each lag of the flow. (Where there is none, any schedule will do.)
abbrev pub ComesAfter : ℕ → Lags → ℕ → ℕ → Tally → Type 0
ComesAfter n L first v t =
    (x : ℕ → Row) (g : ℕ) → Schedule 1 (events n) L x → (1 ≤ t.added → EndsWithin n g x)
    → (minute_at x first +ℤ t.sum) ≤ℤ (minute_at x v +ℤ pos (t.added * g))

-- the sum is no further out than as many lags as were counted, those of the flow left out
pub record SumInside (i : ℕ) (t : Tally) : Type 0 where
  pub few : t.added ≤ i
  pub low : neg_ℤ (pos (i * lag_limit)) ≤ℤ t.sum
  pub high : (t.sum +ℤ pos (t.added * lag_limit)) ≤ℤ pos (i * lag_limit)

-- i lags of a loop are counted, from its first event to v. The others lead back to the first over
-- the events listed, and all together sum up to more than zero.
pub record CountedTo (n f : ℕ) (L : Lags) (first v i : ℕ) (rest : List ℕ) (t : Tally)
    : Type 0 where
  pub inside : SumInside i t
  pub comes : ComesAfter n L first v t
  pub sum : Row
  pub chain : Chain (events n) (with_flow f L) v rest first sum
  pub after : pos (t.added * f) <ℤ (t.sum +ℤ minute (Some sum))

-- The whole loop is counted: the plan's own lags sum up to more than f for each lag of the flow. No
-- schedule is within a flow of which this holds, too.
pub record LoopCounted (n f : ℕ) (L : Lags) (t : Tally) : Type 0 where
  pub some : 1 ≤ t.added
  pub after : pos (t.added * f) <ℤ t.sum
  pub high : t.sum ≤ℤ pos ((most_events - 1) * lag_limit)
  pub refutes : (g : ℕ) (x : ℕ → Row) → WithinFlow n L g x → t.sum ≤ℤ pos (t.added * g)

-- no schedule is within less than f
pub record FlowTried (n : ℕ) (L : Lags) (f : ℕ) : Type 0 where
  pub inside : f ≤ flow_limit
  pub least : (g : ℕ) (x : ℕ → Row) → WithinFlow n L g x → f ≤ g

-- the next flow to be tried after f
pub record NextFlow (n f : ℕ) (L : Lags) (next : ℕ) : Type 0 where
  pub rises : f < next
  pub tried : FlowTried n L next

-- The least flow of any schedule is found.
pub record LeastFound (n : ℕ) (L : Lags) (found : FlowFound) : Type 0 where
  pub tried : FlowTried n L found.flow
  pub reached : (x : ℕ → Row) × WithinFlow n L found.flow x
  pub counted : FlowCounted found
