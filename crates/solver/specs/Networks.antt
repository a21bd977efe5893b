-- What a network offers a solver.
use Rattle.std.specs.Prelude.{◌≡◌, ℕ, ◌*◌, ◌<◌, ◌≤◌, Some, None, Option}
use Rattle.rows.specs.Rows.{Row, plus, Within}
use Rattle.rows.specs.Limits.{total_limit, most_events}
use Rattle.marks.specs.Meaning.{TotalOf}
use Rattle.schedules.specs.Plans.{Lags, Totals, Wide, Limited}

-- The sum of a total and the lag that stands there, if any: nothing where none stands, or exactly
-- when the sum is beyond the limit of totals.
abbrev pub SumAlong : {T : Type 0} → (T → Row) → T → Option Row → Option T → Type 0
SumAlong row total None r = r ≡ None
SumAlong row total (Some a) r = TotalOf row (plus (row total) a) r

-- No sum of a total and a lag is beyond the limit of totals.
abbrev pub SumsInside : ℕ → Lags → Totals → Type 0
SumsInside m L S =
    (v u : ℕ) (t a : Row) → v < m → u < m
    → S u ≡ Some t → L v u ≡ Some a → Within total_limit (plus t a)

-- What the solver needs of m events and the lags between them, of width w: the lags have a limit,
-- and m of them in a row do not lead from zero beyond the limit of totals.
pub record Net (w m : ℕ) (L : Lags) : Type 0 where
  pub some : 1 ≤ m
  pub few : m ≤ most_events
  pub wide : Wide w m L
  pub limit : ℕ
  pub limited : Limited limit m L
  pub room : m * limit ≤ total_limit
