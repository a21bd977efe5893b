-- From what a call promises of schedules, starts and due times to its answer in the algebra.
use Rattle.std.proofs.Common.{◌≡◌, ℕ, suc, ◌-◌, ◌<◌, ◌≤◌, Option, sym, ap, ◌∙◌, subst, arith}
use Rattle.rows.specs.Rows.{Row}
use Rattle.rows.specs.Algebra.{◌⊗◌, ◌≼◌, Vector, Matrix, matrix_vector, transpose, conjugate, residual}
use Rattle.schedules.specs.Answers.{LeastTimes, GreatestTimes}
use Rattle.schedules.specs.Closest.{Closest}
use Rattle.schedules.specs.Plans.{Lags, Totals, Wide, columns, Schedulable}
use Rattle.schedules.specs.Starts.{Finishes, Backward}
use Rattle.schedules.specs.Tables.{start, finish, events}
use Rattle.algebra.specs.Answers.{IsOpeningColumn, IsProduct, IsResidual}
use Rattle.algebra.specs.Matrices.{lag_matrix, starts_of, finishes_of}
use Rattle.algebra.specs.Theorems.{Full, ClosestIsHalf}
use Rattle.algebra.proofs.Halves.{closest_half}
use Rattle.algebra.proofs.Order.{sum_same}
use Rattle.algebra.proofs.Residuals.{finish_product, residual_starts, residual_below, residual_greatest}
use Rattle.algebra.proofs.Serves.{all_served}
use Rattle.algebra.proofs.Stars.{star, least_entry, transposed_star, greatest_entry}

-- the times of all events

module _ (w m : ℕ) (A : Matrix) (x : Vector) (wide : Wide w m A) (some : 1 ≤ w) (first : 1 ≤ m) (p : Schedulable w m A) where
  pub least_column : LeastTimes w m A x → IsOpeningColumn w m A x
  least_column least = record {
    star = star w m A wide first p (m - 1) (omega arith);
    column = λ S is e e_in. sym ((least_entry w m A wide first S some p is e (x e) e_in).0 (least e e_in));
  }

  pub greatest_column : GreatestTimes w m A x → IsOpeningColumn w m (transpose A) (conjugate x)
  greatest_column greatest = record {
    star = transposed_star w m A wide first p (m - 1) (omega arith);
    column = λ S is e e_in. sym ((greatest_entry w m A S wide some first p is e (x e) e_in).0 (greatest e e_in));
  }

-- starts and finishes

module _ (w n : ℕ) (L : Lags) (wide_L : Wide w (events n) L) where
  pub lag_matrix_wide : Wide w n (lag_matrix L)
  lag_matrix_wide j k r j_in k_in e = wide_L (finish (suc j)) (start (suc k)) r (omega arith) (omega arith) e

  pub product : (x y : Totals) → Wide w (events n) (columns x) → Finishes n L x y → IsProduct n (lag_matrix L) (starts_of x) (finishes_of y)
  product x y wide_x = finish_product w n L x wide_L wide_x y

  module _ (d y : Totals) (wide_d : Wide w (events n) (columns d)) (wide_y : Wide w (events n) (columns y)) (due : Full n (finishes_of d)) (best : Backward w n L d y) where
    finishes_wide : Wide w n (columns (finishes_of d))
    finishes_wide j k r j_in k_in e = wide_d (finish (suc j)) (finish (suc j)) r (omega arith) (omega arith) e

    starts_is : (k : ℕ) → k < n → starts_of y k ≡ residual n (lag_matrix L) (finishes_of d) k
    starts_is = residual_starts w n L d wide_L wide_d due y wide_y best

    starts_product : (i : ℕ) → matrix_vector n (lag_matrix L) (residual n (lag_matrix L) (finishes_of d)) i ≡ matrix_vector n (lag_matrix L) (starts_of y) i
    starts_product i =
        sum_same n (λ k. lag_matrix L i k ⊗ residual n (lag_matrix L) (finishes_of d) k) (λ k. lag_matrix L i k ⊗ starts_of y k) (λ k k_in. ap (λ (o : Option Row). lag_matrix L i k ⊗ o) (sym (starts_is k k_in)))

    pub greatest_solution : IsResidual w n (lag_matrix L) (finishes_of d) (starts_of y)
    greatest_solution = record {
      is = starts_is;
      below = λ i i_in. subst (λ (o : Option Row). o ≼ finishes_of d i) (starts_product i) (residual_below w n (lag_matrix L) (finishes_of d) lag_matrix_wide finishes_wide due i i_in);
      greatest = λ z wide_z solves k r k_in e. residual_greatest w n (lag_matrix L) (finishes_of d) lag_matrix_wide finishes_wide due z wide_z solves k r k_in (sym (starts_is k k_in) ∙ e);
    }

-- the closest starts
pub closest_is_half : (n : ℕ) (L : Lags) (d y : Totals) (e : ℕ) → 1 ≤ n → Wide 1 (events n) L
    → Wide 1 (events n) (columns d) → Full n (finishes_of d) → Closest n L d y e
    → ClosestIsHalf n (lag_matrix L) (finishes_of d) (starts_of y) e
closest_is_half n L d y e first wide_L wide_d due h = closest_half n L d first wide_L wide_d due (all_served n L d y e h) y e h
