-- What a round does to each event, and the event that its total came from.
use Rattle.std.specs.Prelude.{◌≡◌, ℕ, ◌<◌, Bool, true, Some, None, Option, ◌≢◌}
use Rattle.std.specs.Int.{bit_at}
use Rattle.rows.specs.MaxPlus.{before, added}
use Rattle.rows.specs.Rows.{Row}
use Rattle.schedules.specs.Plans.{AtLeast, Lags, Totals}
use Rattle.schedules.specs.Rounds.{round}
use Rattle.schedules.specs.Walks.{Source}
use Rattle.solver.specs.Words.{Among}

-- whether x is after the best so far, if there is one
abbrev pub beats : Row → Option Row → Bool
beats x None = true
beats x (Some y) = before y x

-- what event u, at the total t, asks of v
abbrev pub asked : Lags → ℕ → Row → ℕ → Option Row
asked L u t v = added (Some t) (L v u)

-- The lags from event u, at the total t, were followed to each of m events, whose totals X became
-- Y: those in the word rose to what u asks, and came from u; of the others it asks no more than
-- they had.
pub record Followed
    (m : ℕ) (L : Lags) (u : ℕ) (t : Row) (X Y : Totals) (was from : ℕ → ℕ) (word : ℕ)
    : Type 0 where
  pub among : Among m word
  pub stayed : (v : ℕ) → v < m → bit_at word v ≡ 0
      → (Y v ≡ X v) × (from v ≡ was v) × AtLeast (X v) (asked L u t v)
  pub rose : (v : ℕ) → v < m → bit_at word v ≡ 1
      → (from v ≡ u)
      × ((z : Row) × (asked L u t v ≡ Some z) × (Y v ≡ Some z) × (beats z (X v) ≡ true))

-- No event outside the word asks more of any than it has.
abbrev pub Idle : ℕ → Lags → Totals → ℕ → Type 0
Idle m L S word =
    (v u : ℕ) → v < m → u < m → bit_at word u ≡ 0 → AtLeast (S v) (added (S u) (L v u))

-- m events went through a round from the totals S, and R are their totals then. The word has those
-- that it changed, and each of them came from an event.
pub record WentRound (m : ℕ) (L : Lags) (S R : Totals) (from : ℕ → ℕ) (word : ℕ) : Type 0 where
  pub totals : (v : ℕ) → v < m → R v ≡ round m L S v
  pub among : Among m word
  pub same : (v : ℕ) → v < m → bit_at word v ≡ 0 → R v ≡ S v
  pub traced : (v : ℕ) → v < m → bit_at word v ≡ 1 → (R v ≢ S v) × Source m L S v (from v) (R v)
