-- Sums and differences that are there, and the width of what stands in a plan.
use Rattle.std.proofs.Common.{◌≡◌, ℕ, ◌≤◌, length, Some, Option, sym, ap, ◌∙◌, arith}
use Rattle.rows.specs.MaxPlus.{added, taken, both}
use Rattle.rows.specs.Rows.{Row, plus, minus}
use Rattle.schedules.specs.Plans.{Lags, Totals, Wide, columns}
use Rattle.schedules.specs.Tables.{start, finish, events}
use Rattle.rows.proofs.Options.{both_some}
use Rattle.rows.proofs.Sums.{length-plus, length-minus}

module _ (w : ℕ) (x y : Option Row) (wide_x : (r : Row) → x ≡ Some r → length r ≡ w) (wide_y : (r : Row) → y ≡ Some r → length r ≡ w) where
  both_wide : (f : Row → Row → Row) → ((a b : Row) → length a ≡ w → length b ≡ w → length (f a b) ≡ w) → (q : Row) → both f x y ≡ Some q → length q ≡ w
  both_wide f keeps q e = let s = both_some f x y q e in sym (ap length s.4) ∙ keeps s.0 s.1 (wide_x s.0 s.2) (wide_y s.1 s.3)

  pub added_wide : (q : Row) → added x y ≡ Some q → length q ≡ w
  added_wide = both_wide plus (λ a b. length-plus a b w)

  pub taken_wide : (q : Row) → taken x y ≡ Some q → length q ≡ w
  taken_wide = both_wide minus (λ a b. length-minus a b w)

-- of n stages

module _ (w n : ℕ) (L : Lags) (wide : Wide w (events n) L) where
  pub lag_wide : (j k : ℕ) → j ≤ n → k ≤ n → (r : Row) → L (finish j) (start k) ≡ Some r → length r ≡ w
  lag_wide j k j_in k_in r e = wide (finish j) (start k) r (omega arith) (omega arith) e

module _ (w n : ℕ) (x : Totals) (wide : Wide w (events n) (columns x)) where
  pub start_wide : (k : ℕ) → k ≤ n → (r : Row) → x (start k) ≡ Some r → length r ≡ w
  start_wide k k_in r e = wide (start k) 0 r (omega arith) (omega arith) e

  pub finish_wide : (k : ℕ) → k ≤ n → (r : Row) → x (finish k) ≡ Some r → length r ≡ w
  finish_wide k k_in r e = wide (finish k) 0 r (omega arith) (omega arith) e
