-- Finishes and starts by a fold over the stages.
use Rattle.std.specs.Prelude.{◌≡◌, ℕ, suc, ◌+◌, ◌≤◌, Some, None, Option}
use Rattle.rows.specs.Limits.{lag_limit, given_limit}
use Rattle.rows.specs.MaxPlus.{later, earlier, added, taken, folded}
use Rattle.rows.specs.Rows.{Row, Within}
use Rattle.schedules.specs.Plans.{Lags, Totals}
use Rattle.schedules.specs.Tables.{start, finish}

-- the finish of v from the starts x
abbrev pub finish_of : ℕ → Lags → Totals → ℕ → Option Row
finish_of n L x v = folded later None n (λ k. added (x (start (suc k))) (L v (start (suc k))))

-- the earliest of due time minus lag from u, of the due times d
abbrev pub start_of : ℕ → Lags → Totals → ℕ → Option Row
start_of n L d u = folded earlier None n (λ j. taken (d (finish (suc j))) (L (finish (suc j)) u))

-- a total that is there is no further out than a given total and a lag
abbrev pub NearGiven : Option Row → Type 0
NearGiven o = (r : Row) → o ≡ Some r → Within (given_limit + lag_limit) r

-- so is every start
abbrev pub StartsInside : ℕ → Totals → Type 0
StartsInside n x = (k : ℕ) → 1 ≤ k → k ≤ n → NearGiven (x (start k))
