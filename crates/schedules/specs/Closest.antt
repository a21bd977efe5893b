-- Starts whose finishes come as close to their due times as any starts' finishes can.
use Rattle.std.specs.Prelude.{◌≡◌, ℕ, ◌≤◌, length, Some, None}
use Rattle.rows.specs.Rows.{Row, plus, minus, NotBefore}
use Rattle.schedules.specs.Minutes.{minutes}
use Rattle.schedules.specs.Plans.{Lags, Totals}
use Rattle.schedules.specs.Tables.{start, finish}
use Rattle.schedules.specs.Starts.{Finished, NoneAfter}

-- neither before due - e nor after due + e
pub record Near (e : ℕ) (due end : Row) : Type 0 where
  pub not_early : NotBefore end (minus due (minutes e))
  pub not_late : NotBefore (plus due (minutes e)) end

-- Of the starts x, rows of one part of any size, each stage's finish, by the finish rule, is there
-- and is no further than e from its due time in d.
pub record AllNear (n : ℕ) (L : Lags) (d x : Totals) (e : ℕ) : Type 0 where
  pub starts : (k : ℕ) → 1 ≤ k → k ≤ n
      → (r : Row) × (x (start k) ≡ Some r) × (length r ≡ 1)
  pub finishes : (j : ℕ) → 1 ≤ j → j ≤ n
      → (due : Row) × (end : Row) × (d (finish j) ≡ Some due)
      × Finished n L x (finish j) (Some end) × Near e due end

-- The finishes of the starts y are no further than e from their due times, those of no starts are
-- so for a smaller distance, and of all starts of which they are so for e these are the greatest.
pub record Closest (n : ℕ) (L : Lags) (d y : Totals) (e : ℕ) : Type 0 where
  pub opening : y 0 ≡ None
  pub finishes : (k : ℕ) → 1 ≤ k → k ≤ n → y (finish k) ≡ None
  pub near : AllNear n L d y e
  pub smallest : (x : Totals) (f : ℕ) → AllNear n L d x f → e ≤ f
  pub greatest : (x : Totals) → AllNear n L d x e → NoneAfter n y x
