-- What a call wrote, in the words of the algebra.
use Rattle.std.proofs.Common.{◌≡◌, ℕ, ◌≤◌, false, List, length, Option, subst, arith}
use Rattle.marks.specs.declared.kind.Mark.{Ghosts}
use Rattle.rows.specs.Algebra.{transpose, conjugate}
use Rattle.schedules.specs.Answers.{LeastTimes, GreatestTimes}
use Rattle.schedules.specs.Flows.{Flow}
use Rattle.schedules.specs.FlowTheorems.{LeastSchedulable}
use Rattle.schedules.specs.Plans.{Schedulable, Wide, columns}
use Rattle.schedules.specs.Starts.{Finishes, Backward}
use Rattle.schedules.specs.Tables.{events, times}
use Rattle.schedules.proofs.Flows.{flows_lags}
use Rattle.schedules.proofs.Meanings.{lags_wide, times_wide}
use Rattle.algebra.specs.Answers.{IsOpeningColumn, IsProduct, IsResidual}
use Rattle.algebra.specs.Matrices.{lag_matrix, starts_of, finishes_of}
use Rattle.algebra.specs.Theorems.{FlowInAlgebra}
use Rattle.algebra.proofs.Means.{flow_greatest_mean}
use Rattle.algebra.proofs.Answering.{least_column, greatest_column, product, greatest_solution}
use Rattle.plan.specs.Calls.{RowWritten, TimesWritten, lags_in}
use Rattle.plan.specs.Checks.{totals_missed}
use Rattle.plan.proofs.Passing.{finishes_full}

module _ {T A : Type 0} (kind : Ghosts T A) (broad : (a : A) → length (kind.amount a) ≡ kind.WIDTH) (n : ℕ) (table : List (Option A)) where
  wide_lags : Wide kind.WIDTH (events n) (lags_in kind n table)
  wide_lags = lags_wide kind.WIDTH kind.amount broad (events n) (events n) table

  -- of a kind of one part
  module _ (one : kind.WIDTH ≡ 1) (f : ℕ) (answer after : List (Option T)) (h : RowWritten kind n (Flow n (lags_in kind n table) f) answer after) where
    wide_one : Wide 1 (events n) (lags_in kind n table)
    wide_one = subst (λ (w : ℕ). Wide w (events n) (lags_in kind n table)) one wide_lags

    pub schedulable_at : LeastSchedulable n (lags_in kind n table) f (times kind.row after)
    schedulable_at = (flows_lags.flow n (lags_in kind n table) f (times kind.row after) wide_one).0 h.written

    pub mean_at : 1 ≤ n → FlowInAlgebra n (lags_in kind n table) f
    mean_at first = flow_greatest_mean n (lags_in kind n table) f (times kind.row after) first wide_one h.written

  module _ (low : 1 ≤ kind.WIDTH) (p : Schedulable kind.WIDTH (events n) (lags_in kind n table)) (answer after : List (Option T)) where
    pub least_at : TimesWritten LeastTimes kind n table answer after → IsOpeningColumn kind.WIDTH (events n) (lags_in kind n table) (times kind.row after)
    least_at h = least_column kind.WIDTH (events n) (lags_in kind n table) (times kind.row after) wide_lags low (omega arith) p h.written

    pub greatest_at : TimesWritten GreatestTimes kind n table answer after → IsOpeningColumn kind.WIDTH (events n) (transpose (lags_in kind n table)) (conjugate (times kind.row after))
    greatest_at h = greatest_column kind.WIDTH (events n) (lags_in kind n table) (times kind.row after) wide_lags low (omega arith) p h.written

  module _ (wide : (t : T) → length (kind.row t) ≡ kind.WIDTH) where
    wide_row : (row : List (Option T)) → Wide kind.WIDTH (events n) (columns (times kind.row row))
    wide_row row = times_wide kind.WIDTH kind.row wide (events n) row

    pub product_at : (starts finishes after : List (Option T)) → RowWritten kind n (Finishes n (lags_in kind n table) (times kind.row starts)) finishes after
        → IsProduct n (lag_matrix (lags_in kind n table)) (starts_of (times kind.row starts)) (finishes_of (times kind.row after))
    product_at starts finishes after h =
        product kind.WIDTH n (lags_in kind n table) wide_lags (times kind.row starts) (times kind.row after) (wide_row starts) h.written

    pub solution_at : (due starts after : List (Option T)) → totals_missed (times kind.row due) 2 2 n ≡ false
        → RowWritten kind n (Backward kind.WIDTH n (lags_in kind n table) (times kind.row due)) starts after
        → IsResidual kind.WIDTH n (lag_matrix (lags_in kind n table)) (finishes_of (times kind.row due)) (starts_of (times kind.row after))
    solution_at due starts after passed h =
        greatest_solution kind.WIDTH n (lags_in kind n table) wide_lags (times kind.row due) (times kind.row after) (wide_row due) (wide_row after) (finishes_full n (times kind.row due) passed) h.written
