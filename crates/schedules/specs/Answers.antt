-- What may be answered of a plan: an event's time, if it has one, and a loop in a row of events.
use Rattle.std.specs.Prelude.{◌≡◌, ℕ, ◌<◌, ◌≤◌, List, take, drop, Some, None, Option}
use Rattle.rows.specs.Rows.{Row}
use Rattle.schedules.specs.Plans.{Lags, Totals, Schedulable, Loop, Earliest, FreeBelow, Latest, FreeAbove}

-- the least time of an event; none where it is free, before every row some schedule has it
abbrev pub LeastTime : ℕ → ℕ → Lags → ℕ → Option Row → Type 0
LeastTime w m L e None = FreeBelow w m L e
LeastTime w m L e (Some r) = Earliest w m L e r

-- so for each of m events
abbrev pub LeastTimes : ℕ → ℕ → Lags → Totals → Type 0
LeastTimes w m L x = (e : ℕ) → e < m → LeastTime w m L e (x e)

-- the greatest time of an event; none where it is free, after every row some schedule has it
abbrev pub GreatestTime : ℕ → ℕ → Lags → ℕ → Option Row → Type 0
GreatestTime w m L e None = FreeAbove w m L e
GreatestTime w m L e (Some r) = Latest w m L e r

abbrev pub GreatestTimes : ℕ → ℕ → Lags → Totals → Type 0
GreatestTimes w m L x = (e : ℕ) → e < m → GreatestTime w m L e (x e)

-- a loop of the lags L in the first places of a row of events, and the other places as they were
abbrev pub Shown : ℕ → ℕ → Lags → List ℕ → List ℕ → ℕ → Type 0
Shown w m L row after len =
    (len ≤ m) × Loop w m L (take len after) × (drop len after ≡ drop len row)

-- a schedule, and the row as it was; or a loop of that length in the row
abbrev pub LoopSought : ℕ → ℕ → Lags → List ℕ → List ℕ → Option ℕ → Type 0
LoopSought w m L row after None = Schedulable w m L × (after ≡ row)
LoopSought w m L row after (Some len) = Shown w m L row after len

-- the least and the greatest time of an event
pub record Spread (w m : ℕ) (L : Lags) (e : ℕ) (least greatest : Option Row) : Type 0 where
  pub low : LeastTime w m L e least
  pub high : GreatestTime w m L e greatest
