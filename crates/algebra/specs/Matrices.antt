-- A plan's start-to-finish lags, its starts and its finishes in the algebra.
use Rattle.std.specs.Prelude.{◌≡◌, ℕ, suc, ◌<◌, ◌≢◌, None}
use Rattle.rows.specs.Algebra.{Vector, Matrix}
use Rattle.schedules.specs.Plans.{Lags, Totals}
use Rattle.schedules.specs.Tables.{start, finish, events}

-- The start-to-finish lags as a matrix, and the starts and finishes as vectors: the entries 0, 1,
-- .. belong to the stages 1, 2, ..
abbrev pub lag_matrix : Lags → Matrix
lag_matrix L j k = L (finish (suc j)) (start (suc k))

abbrev pub starts_of : Totals → Vector
starts_of x k = x (start (suc k))

abbrev pub finishes_of : Totals → Vector
finishes_of y j = y (finish (suc j))

-- no other lags stand than those of that matrix
abbrev pub OnlyStartToFinish : ℕ → Lags → Type 0
OnlyStartToFinish n L =
    (v u : ℕ) → v < events n → u < events n → L v u ≢ None
    → (j : ℕ) × (k : ℕ) × (j < n) × (k < n) × (v ≡ finish (suc j)) × (u ≡ start (suc k))
