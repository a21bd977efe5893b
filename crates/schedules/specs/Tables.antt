-- Stages, events and tables, and what a table and a row of totals mean.
use Rattle.std.specs.Prelude.{◌≡◌, ℕ, ◌+◌, ◌-◌, ◌*◌, ◌<◌, ◌⊎◌, List, length, drop, None, Option, slice_index_or}
use Rattle.std.specs.Option.{option_map}
use Rattle.rows.specs.Rows.{Row}
use Rattle.schedules.specs.Plans.{Lags, Totals}

-- event 0 is the opening; stage k, from 1 on, starts and finishes at these
abbrev pub start : ℕ → ℕ
start k = 2 * k - 1

abbrev pub finish : ℕ → ℕ
finish k = 2 * k

-- how many events n stages have
abbrev pub events : ℕ → ℕ
events n = 2 * n + 1

abbrev pub places : ℕ → ℕ
places n = events n * events n

-- where the lag to v from u lies, of m events
abbrev pub place : ℕ → ℕ → ℕ → ℕ
place m v u = v * m + u

-- what a table means, and what a row of totals means
abbrev pub lags : {A : Type 0} → (A → Row) → ℕ → List (Option A) → Lags
lags amount m table v u = option_map amount (slice_index_or table (place m v u) None)

abbrev pub times : {A : Type 0} → (A → Row) → List (Option A) → Totals
times row totals v = option_map row (slice_index_or totals v None)

-- v is the start or the finish of stage k
abbrev pub OfStage : ℕ → ℕ → Type 0
OfStage k v = (v ≡ start k) ⊎ (v ≡ finish k)

-- every place to or from an event of which E holds is empty, and the others are as they were, as
-- many as before
pub record Cleared {A : Type 0} (m : ℕ) (E : ℕ → Type 0)
    (table after : List (Option A)) : Type 0 where
  pub places : length after ≡ length table
  pub emptied : (v u : ℕ) → v < m → u < m → E v ⊎ E u
      → slice_index_or after (place m v u) None ≡ None
  pub kept : (v u : ℕ) → v < m → u < m → (E v ⊎ E u → ⊥)
      → slice_index_or after (place m v u) None ≡ slice_index_or table (place m v u) None

-- the first n places hold what F says, and the others are as they were
abbrev pub Overwritten : {T : Type 0}
    → (ℕ → Option T) → ℕ → List (Option T) → List (Option T) → Type 0
Overwritten F n row after =
    ((e : ℕ) → e < n → slice_index_or after e None ≡ F e) × (drop n after ≡ drop n row)
