-- What lags offer a solver: those within a limit of which a total has room for so many as there are
-- events, and so those of a table, in both directions.
use Rattle.std.proofs.Common.{◌≡◌, ℕ, ◌*◌, ◌≤◌, List, length, Option, arith}
use Rattle.rows.specs.Rows.{Row, Within}
use Rattle.rows.specs.Limits.{lag_limit, total_limit, most_events}
use Rattle.rows.proofs.Limits.{few_fit}
use Rattle.schedules.specs.Plans.{Lags, Limited, Wide, reversed}
use Rattle.schedules.specs.Tables.{lags}
use Rattle.schedules.proofs.Meanings.{table_holds, lags_wide}
use Rattle.solver.specs.Networks.{Net}

pub limited_net : (w b m : ℕ) (L : Lags) → 1 ≤ m → m ≤ most_events → m * b ≤ total_limit → Wide w m L → Limited b m L → Net w m L
limited_net w b m L some few room wide limited = record { some = some; few = few; wide = wide; limit = b; limited = limited; room = room }

-- the lags of a table

pub table_limited : {A : Type 0} (amount : A → Row) → ((lag : A) → Within lag_limit (amount lag)) → (m : ℕ) (table : List (Option A)) → Limited lag_limit m (lags amount m table)
table_limited amount limited m table v u a v_in u_in e = table_holds (Within lag_limit) amount limited m table v u a e

module _ {A : Type 0} (w m : ℕ) (amount : A → Row) (table : List (Option A)) (wide : (lag : A) → length (amount lag) ≡ w) (limited : (lag : A) → Within lag_limit (amount lag)) (some : 1 ≤ m) (few : m ≤ most_events) where
  table_room : m * lag_limit ≤ total_limit
  table_room = omega (arith, few_fit m few)

  pub table_net : Net w m (lags amount m table)
  table_net = limited_net w lag_limit m (lags amount m table) some few table_room (lags_wide w amount wide m m table) (table_limited amount limited m table)

  pub reversed_net : Net w m (reversed (lags amount m table))
  reversed_net =
      limited_net w lag_limit m (reversed (lags amount m table)) some few table_room (λ v u a v_in u_in e. lags_wide w amount wide m m table u v a u_in v_in e) (λ v u a v_in u_in e. table_limited amount limited m table u v a u_in v_in e)
