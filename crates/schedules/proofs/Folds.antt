-- What is chosen stage by stage is the latest, or the earliest, of all.
use Rattle.std.proofs.Common.{◌≡◌, ℕ, ◌≤◌, length, Some}
use Rattle.rows.specs.MaxPlus.{added, taken}
use Rattle.rows.specs.Rows.{Row}
use Rattle.rows.proofs.Extremes.{latest_folded, earliest_folded}
use Rattle.schedules.specs.Plans.{Lags, Totals, Wide, columns}
use Rattle.schedules.specs.Tables.{start, finish, events}
use Rattle.schedules.specs.Starts.{Finished, Allowed}
use Rattle.schedules.specs.Folds.{finish_of, start_of}
use Rattle.schedules.proofs.Widths.{added_wide, taken_wide, start_wide, finish_wide}

module _ (w n : ℕ) (L : Lags) (x : Totals) (wide : Wide w (events n) (columns x)) where
  pub finish_is : (v : ℕ) → ((k : ℕ) (r : Row) → k ≤ n → L v (start k) ≡ Some r → length r ≡ w) → Finished n L x v (finish_of n L x v)
  finish_is v wide_v =
      latest_folded w (λ k. added (x (start k)) (L v (start k))) n (λ k q low high e. added_wide w (x (start k)) (L v (start k)) (start_wide w n x wide k high) (λ r. wide_v k r high) q e)

  pub start_is : (u : ℕ) → ((j : ℕ) (r : Row) → j ≤ n → L (finish j) u ≡ Some r → length r ≡ w) → Allowed n L x u (start_of n L x u)
  start_is u wide_u =
      earliest_folded w (λ j. taken (x (finish j)) (L (finish j) u)) n (λ j q low high e. taken_wide w (x (finish j)) (L (finish j) u) (finish_wide w n x wide j high) (λ r. wide_u j r high) q e)
