-- The three ways in which a call ends: it answers, it refuses by a check, it finds no schedule.
use Rattle.std.specs.Prelude.{◌≡◌, ℕ, ◌⊎◌, List, Some, None, Ok, Err, Result}
use Rattle.schedules.specs.Answers.{Shown}
use Rattle.schedules.specs.Plans.{Lags, Schedulable}
use Rattle.plan.specs.Checks.{Check, first_missed}
use Rattle.plan.specs.Faults.{refusal_of}
use Rattle.plan.specs.declared.fault.PlanFault.{PlanFault}
use Rattle.plan.specs.declared.fault.PlanFault.TheVariants.{Loop}

-- It answers: no check is missed, and P holds of the answer and of what is written.
pub record Answered (checks : List Check) (P : Type 0) : Type 0 where
  pub none_missed : first_missed checks ≡ None
  pub answer : P

-- It refuses: the fault names number and layer of the first check missed, and K says what is kept.
pub record Refused (checks : List Check) (fault : PlanFault) (K : Type 0) : Type 0 where
  pub first : first_missed checks ≡ Some (refusal_of fault)
  pub kept : K

-- How a call ends that needs no schedule.
abbrev pub Ended : {A : Type 0} → List Check → (A → Type 0) → Type 0 → Result A PlanFault → Type 0
Ended checks P K (Ok a) = Answered checks (P a)
Ended checks P K (Err fault) = Refused checks fault K

-- A call that needs a schedule: its checks, and the width, the number of events and the lags of the
-- plan whose schedule it needs, with the loop row as it is given and as it is left.
pub record Needs : Type 0 where
  pub checks : List Check
  pub width : ℕ
  pub count : ℕ
  pub lags : Lags
  pub loop_row : List ℕ
  pub loop_after : List ℕ

-- It answers: there is a schedule, and the loop row is as it was.
pub record Scheduled (needs : Needs) (P : Type 0) : Type 0 where
  pub none_missed : first_missed needs.checks ≡ None
  pub schedule : Schedulable needs.width needs.count needs.lags
  pub answer : P
  pub loop_kept : needs.loop_after ≡ needs.loop_row

-- It refuses: so the loop row is kept, too.
pub record RefusedWhole (needs : Needs) (fault : PlanFault) (K : Type 0) : Type 0 where
  pub first : first_missed needs.checks ≡ Some (refusal_of fault)
  pub kept : K
  pub loop_kept : needs.loop_after ≡ needs.loop_row

-- No check is missed, but there is no schedule: the fault tells the length of a loop of the lags,
-- which is in the first places of the loop row; its other places are as they were.
pub record Contradicted (needs : Needs) (fault : PlanFault) (K : Type 0) : Type 0 where
  pub none_missed : first_missed needs.checks ≡ None
  pub no_schedule : Schedulable needs.width needs.count needs.lags → ⊥
  pub len : ℕ
  pub fault_is : fault ≡ Loop len
  pub shown : Shown needs.width needs.count needs.lags needs.loop_row needs.loop_after len
  pub kept : K

abbrev pub Solved : {A : Type 0} → Needs → (A → Type 0) → Type 0 → Result A PlanFault → Type 0
Solved needs P K (Ok a) = Scheduled needs (P a)
Solved needs P K (Err fault) = RefusedWhole needs fault K ⊎ Contradicted needs fault K
