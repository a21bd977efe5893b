-- A loop that was found contradicts the plan.
use Rattle.std.proofs.Common.{ℕ, List, take, Some}
use Rattle.schedules.specs.Plans.{Lags, Schedulable}
use Rattle.schedules.proofs.Chains.{loop_contradicts}
use Rattle.schedules.specs.Answers.{LoopSought}

pub loop_refuses : (w m : ℕ) (L : Lags) (row after : List ℕ) (len : ℕ) → LoopSought w m L row after (Some len) → Schedulable w m L → ⊥
loop_refuses w m L row after len h s = loop_contradicts w m L s.0 s.1 (take len after) h.1
