-- One flow tried after the other, until the plan with it has a schedule.
use Rattle.std.proofs.Common.{◌≡◌, ℕ, ◌-◌, ◌<◌, List, length, sym, subst, subst₂, arith}
use Rattle.marks.specs.declared.kind.Mark.{Ghosts}
use Rattle.rows.specs.Limits.{flow_limit}
use Rattle.rows.specs.Rows.{Row}
use Rattle.schedules.specs.Flows.{WithinFlow, with_flow}
use Rattle.schedules.specs.Plans.{Lags, Wide, Schedulable, Loop}
use Rattle.schedules.specs.Tables.{events}
use Rattle.schedules.proofs.Flows.{from_lags, to_lags}
use Rattle.schedules.proofs.Meanings.{lags_wide}
use Rattle.plan.specs.FlowSteps.{FlowTried, NextFlow}
use Rattle.plan.specs.Passing.{lags_of}
use Rattle.plan.specs.declared.table.Table.{Table}

pub zero_tried : (n : ℕ) (L : Lags) → FlowTried n L 0
zero_tried n L = record { inside = omega arith; least = λ g x h. omega arith }

pub falls : (n f next : ℕ) (L : Lags) → NextFlow n f L next → flow_limit - next < flow_limit - f
falls n f next L h = omega (arith, h.rises, h.tried.inside)

-- the lags of a table of a kind of one part
pub table_wide : {T A : Type 0} {kind : Ghosts T A} → ((a : A) → length (kind.amount a) ≡ kind.WIDTH) → kind.WIDTH ≡ 1 → (table : Table T A kind) → Wide 1 (events table.stages) (lags_of table)
table_wide {kind} broad one table =
    subst (λ (w : ℕ). Wide w (events table.stages) (lags_of table)) one (lags_wide kind.WIDTH kind.amount broad (events table.stages) table.count table.lags.now)

module _ (n m w : ℕ) (L : Lags) (one : w ≡ 1) (laid : m ≡ events n) where
  pub loop_laid : (M : Lags) (es : List ℕ) → Loop w m M es → Loop 1 (events n) M es
  loop_laid M es h = subst₂ (λ (v k : ℕ). Loop v k M es) one laid h

  pub schedule_laid : (M : Lags) → Schedulable w m M → Schedulable 1 (events n) M
  schedule_laid M s = subst₂ (λ (v k : ℕ). Schedulable v k M) one laid s

  module _ (wide : Wide 1 (events n) L) (f : ℕ) where
    pub reached : Schedulable w m (with_flow f L) → (x : ℕ → Row) × WithinFlow n L f x
    reached s = let t = schedule_laid (with_flow f L) s in (t.0, from_lags n L wide f t.0 t.1)

    pub within_schedulable : (x : ℕ → Row) × WithinFlow n L f x → Schedulable w m (with_flow f L)
    within_schedulable h = subst₂ (λ (v k : ℕ). Schedulable v k (with_flow f L)) (sym one) (sym laid) (h.0, to_lags n L wide f h.0 h.1)
