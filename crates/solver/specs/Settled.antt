-- Rounds from any first totals, until one changes nothing.
use Rattle.std.specs.Prelude.{◌≡◌, ℕ, ◌+◌, ◌*◌, ◌<◌, ◌≤◌}
use Rattle.rows.specs.Limits.{given_limit, lag_limit, most_events, total_limit}
use Rattle.schedules.specs.Firsts.{CameFrom, Rooted}
use Rattle.schedules.specs.Plans.{Lags, Totals, Limited, columns}
use Rattle.schedules.specs.Rounds.{rounds, Settled}

-- The totals of m events are within `bound`, and as many lags further, none of them beyond `limit`,
-- nothing is beyond the limit of totals.
pub record LeavesRoom (limit m : ℕ) (b : Totals) : Type 0 where
  pub bound : ℕ
  pub within : Limited bound m (columns b)
  pub room : bound + m * limit ≤ total_limit

-- The totals leave room for as many of the lags L.
pub record LeavesRoomFor (m : ℕ) (L : Lags) (b : Totals) : Type 0 where
  pub limit : ℕ
  pub limited : Limited limit m L
  pub leaves : LeavesRoom limit m b

-- Totals within the limit of given totals leave room for lags within theirs, in a plan of any size.
abbrev pub GivenLeaveRoom : Type 0
GivenLeaveRoom =
    (m : ℕ) (b : Totals) → m ≤ most_events → Limited given_limit m (columns b)
    → LeavesRoom lag_limit m b

-- The totals S of m events are those after k rounds from b, and a round more changes nothing.
pub record SettledAt (m : ℕ) (L : Lags) (b S : Totals) (k : ℕ) : Type 0 where
  pub totals : (v : ℕ) → v < m → S v ≡ rounds m L b k v
  pub settled : Settled m L b k

-- Rounds from the first totals b have settled at S: a round more after the k changes nothing, and
-- each of the k changed something. An event that is not at its first total has its total from the
-- event that `came` has for it, and no more than k steps back along `came` lead to one that is.
pub record SettledAfter
    (m : ℕ) (L : Lags) (b S : Totals) (came : ℕ → ℕ) (k : ℕ) : Type 0 where
  pub few : k < m
  pub at : SettledAt m L b S k
  pub fewest : (j : ℕ) → j < k → Settled m L b j → ⊥
  pub sources : CameFrom m L b S came
  pub rooted : (v : ℕ) → v < m → Rooted m b S came k v
