-- The steps to the closest starts: finishes, their largest distance from the due times, and starts
-- all moved alike.
use Rattle.std.specs.Prelude.{◌≡◌, ℕ, zero, suc, ◌≤◌, max, [], ◌∷◌, pos, ◌+ℤ◌, ◌-ℤ◌, Some, None, Option, unsigned_abs}
use Rattle.rows.specs.Limits.{total_limit}
use Rattle.rows.specs.Rows.{Row, Within}
use Rattle.schedules.specs.Minutes.{minute}
use Rattle.schedules.specs.Plans.{Lags, Totals}
use Rattle.schedules.specs.Tables.{start, finish}
use Rattle.schedules.specs.Starts.{Backward}
use Rattle.schedules.specs.Folds.{finish_of}
use Rattle.schedules.specs.Served.{AllServed}

-- how far the finish of stage j from the starts x is from its due time in d
abbrev pub miss : ℕ → Lags → Totals → Totals → ℕ → ℕ
miss n L d x j = unsigned_abs (minute (d (finish j)) -ℤ minute (finish_of n L x (finish j)))

-- the largest of f 1, f 2, .., f n
abbrev pub largest : ℕ → (ℕ → ℕ) → ℕ
largest zero f = 0
largest (suc k) f = max (largest k f) (f (suc k))

-- the start of stage k in x, moved by e
abbrev pub moved : Totals → ℕ → ℕ → Option Row
moved x e k = Some ((minute (x (start k)) +ℤ pos e) ∷ [])

-- every start of x moved by e fits a total
abbrev pub MovedFits : ℕ → Totals → ℕ → Type 0
MovedFits n x e =
    (k : ℕ) → 1 ≤ k → k ≤ n → Within total_limit ((minute (x (start k)) +ℤ pos e) ∷ [])

-- y are the starts of x, all moved by e
pub record Moved (n : ℕ) (x : Totals) (e : ℕ) (y : Totals) : Type 0 where
  pub opening : y 0 ≡ None
  pub starts : (k : ℕ) → 1 ≤ k → k ≤ n → y (start k) ≡ moved x e k
  pub finishes : (k : ℕ) → 1 ≤ k → k ≤ n → y (finish k) ≡ None

-- every finish and start is served, and x are the greatest starts in time
pub record Ready (n : ℕ) (L : Lags) (d x : Totals) : Type 0 where
  pub served : AllServed n L
  pub greatest : Backward 1 n L d x
