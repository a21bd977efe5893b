-- The starts and the distance that closest answers, in the algebra.
use Rattle.std.proofs.Common.{◌≡◌, ℕ, List, length, false, Option, subst}
use Rattle.algebra.specs.Matrices.{lag_matrix, starts_of, finishes_of}
use Rattle.algebra.specs.Theorems.{ClosestIsHalf}
use Rattle.algebra.proofs.Answering.{closest_is_half}
use Rattle.marks.specs.declared.kind.Mark.{Ghosts}
use Rattle.schedules.specs.Closest.{Closest}
use Rattle.schedules.specs.Plans.{Lags, Totals, Wide, columns}
use Rattle.schedules.specs.Tables.{events, times}
use Rattle.schedules.proofs.Meanings.{lags_wide, times_wide}
use Rattle.plan.specs.Calls.{lags_in}
use Rattle.plan.specs.Checks.{totals_missed}
use Rattle.plan.specs.Passing.{PlanRead}
use Rattle.plan.specs.declared.table.Table.{Table}
use Rattle.plan.proofs.Passing.{finishes_full}

-- of a kind of one part
module _ {T A : Type 0} {kind : Ghosts T A} (one : kind.WIDTH ≡ 1) (wide : (t : T) → length (kind.row t) ≡ kind.WIDTH) (broad : (a : A) → length (kind.amount a) ≡ kind.WIDTH)
    (n : ℕ) (table : List (Option A)) (rows : List ℕ) (plan : Table T A kind) (read : PlanRead n table rows plan) where
  pub half : (due starts : List (Option T)) (e : ℕ) → totals_missed (times kind.row due) 2 2 n ≡ false
      → Closest n (lags_in kind n table) (times kind.row due) (times kind.row starts) e
      → ClosestIsHalf n (lag_matrix (lags_in kind n table)) (finishes_of (times kind.row due)) (starts_of (times kind.row starts)) e
  half due starts e passed =
      let L : Lags = lags_in kind n table in
      let d : Totals = times kind.row due in
      let wide_L = subst (λ (w : ℕ). Wide w (events n) L) one (lags_wide kind.WIDTH kind.amount broad (events n) (events n) table) in
      let wide_d = subst (λ (w : ℕ). Wide w (events n) (columns d)) one (times_wide kind.WIDTH kind.row wide (events n) due) in
      closest_is_half n L d (times kind.row starts) e read.laid.some wide_L wide_d (finishes_full n d passed)
