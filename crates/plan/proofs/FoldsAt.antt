-- What is chosen stage by stage, of a table and a row of a kind.
use Rattle.std.proofs.Common.{◌≡◌, ℕ, List, length, Option}
use Rattle.rows.specs.Rows.{Row}
use Rattle.schedules.specs.Tables.{start, finish, events, lags, times}
use Rattle.schedules.proofs.Meanings.{table_holds, lags_wide, times_wide}
use Rattle.schedules.specs.Plans.{Wide, columns}
use Rattle.schedules.specs.Starts.{Finished, Allowed}
use Rattle.schedules.specs.Folds.{finish_of, start_of}
use Rattle.schedules.proofs.Folds.{finish_is, start_is}

-- the same of a table and a row of a kind
module _ {A T : Type 0} (w : ℕ) (row : T → Row) (amount : A → Row) (wide : (t : T) → length (row t) ≡ w) (broad : (a : A) → length (amount a) ≡ w)
    (m n : ℕ) (table : List (Option A)) (x : List (Option T)) where
  pub wide_lags : Wide w (events n) (lags amount m table)
  wide_lags = lags_wide w amount broad (events n) m table

  pub wide_times : Wide w (events n) (columns (times row x))
  wide_times = times_wide w row wide (events n) x

  pub finish_at : (v : ℕ) → Finished n (lags amount m table) (times row x) v (finish_of n (lags amount m table) (times row x) v)
  finish_at v = finish_is w n (lags amount m table) (times row x) wide_times v (λ k r k_in e. table_holds (λ q. length q ≡ w) amount broad m table v (start k) r e)

  pub start_at : (u : ℕ) → Allowed n (lags amount m table) (times row x) u (start_of n (lags amount m table) (times row x) u)
  start_at u = start_is w n (lags amount m table) (times row x) wide_times u (λ j r j_in e. table_holds (λ q. length q ≡ w) amount broad m table (finish j) u r e)
