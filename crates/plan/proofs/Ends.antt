-- What was found at the plan that was read, said of the call's table.
use Rattle.std.proofs.Common.{◌≡◌, ℕ, ◌⊎◌, List, [], Some, None, Option, Result, subst₂, inl, inr, arith}
use Rattle.std.proofs.lemmas.Result.{err_from_is_err_and}
use Rattle.std.specs.Result.{IsErrAnd}
use Rattle.marks.specs.declared.kind.Mark.{Ghosts}
use Rattle.schedules.specs.Answers.{Shown}
use Rattle.schedules.specs.Plans.{Lags, Schedulable}
use Rattle.schedules.specs.Tables.{events, lags}
use Rattle.plan.specs.Calls.{lags_in, needs_in}
use Rattle.plan.specs.Checks.{Check, first_missed}
use Rattle.plan.specs.Endings.{Solved, Scheduled, RefusedWhole, Contradicted}
use Rattle.plan.specs.Faults.{refusal_of}
use Rattle.plan.specs.Passing.{PlanRead, lags_of, needs_of}
use Rattle.plan.specs.declared.fault.PlanFault.{PlanFault}
use Rattle.plan.specs.declared.table.Table.{Table}

module _ {T A : Type 0} {kind : Ghosts T A} {n : ℕ} {table : List (Option A)} {rows : List ℕ} {plan : Table T A kind} (read : PlanRead n table rows plan) where
  pub at_call : (P : ℕ → Lags → Type 0) → P plan.count (lags_of plan) → P (events n) (lags_in kind n table)
  at_call P h = subst₂ (λ (m : ℕ) (t : List (Option A)). P m (lags kind.amount m t)) read.laid.count read.lags h

  module _ (checks : List Check) (passed : first_missed checks ≡ None) (row after : List ℕ) where
    pub grants : {Q : Type 0} (P : Type 0) → Scheduled (needs_of plan [] row after) Q → P → Scheduled (needs_in kind n table checks row after) P
    grants P h p = record {
      none_missed = passed;
      schedule = at_call (Schedulable kind.WIDTH) h.schedule;
      answer = p;
      loop_kept = h.loop_kept;
    }

    refused : (K : Type 0) (fault : PlanFault) → K
        → RefusedWhole (needs_of plan [] row after) fault (Unit {0}) ⊎ Contradicted (needs_of plan [] row after) fault (Unit {0})
        → RefusedWhole (needs_in kind n table checks row after) fault K ⊎ Contradicted (needs_in kind n table checks row after) fault K
    refused K fault k (inl h) = absurd (no_check h.first)
      where
        no_check : ◌≡◌ {A = Option _} None (Some (refusal_of fault)) → ⊥
        no_check e = let z : ◌≡◌ {A = ℕ} 0 1 = cc in omega arith
    refused K fault k (inr h) = inr (record {
      none_missed = passed;
      no_schedule = at_call (λ m L. Schedulable kind.WIDTH m L → ⊥) h.no_schedule;
      len = h.len;
      fault_is = h.fault_is;
      shown = at_call (λ m L. Shown kind.WIDTH m L row after h.len) h.shown;
      kept = k;
    })

    -- the fault of the check for a schedule, passed up
    pub refuses : {B : Type 0} (P : B → Type 0) (K : Type 0) (fault : PlanFault) (r : Result B PlanFault) → K → IsErrAnd r (λ f. f ≡ fault)
        → RefusedWhole (needs_of plan [] row after) fault (Unit {0}) ⊎ Contradicted (needs_of plan [] row after) fault (Unit {0})
        → Solved (needs_in kind n table checks row after) P K r
    refuses P K fault r k e h =
        let p = err_from_is_err_and r e in
        rw (p.1, p.2) (refused K fault k h)
