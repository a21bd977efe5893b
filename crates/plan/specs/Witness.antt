-- Totals that show by themselves that there is a schedule.
use Rattle.std.specs.Prelude.{ℕ, ◌<◌, Some, None, Option}
use Rattle.rows.specs.MaxPlus.{added}
use Rattle.rows.specs.Rows.{Row}
use Rattle.schedules.specs.Plans.{AtLeast, Lags, Totals}

-- A lag, where one stands, leads to an event that has a time, and this is not before what the lag
-- asks from the time where it begins, if there is one.
abbrev pub Kept : (time begins lag : Option Row) → Type 0
Kept time begins None = Unit {0}
Kept None begins (Some a) = ⊥
Kept (Some t) begins (Some a) = AtLeast (Some t) (added begins (Some a))

-- so is every lag to v from the first m events
abbrev pub KeepInto : ℕ → Lags → Totals → ℕ → Type 0
KeepInto m L S v = (u : ℕ) → u < m → Kept (S v) (S u) (L v u)

-- and every lag between them
abbrev pub KeepAll : ℕ → Lags → Totals → Type 0
KeepAll m L S = (v : ℕ) → v < m → KeepInto m L S v
