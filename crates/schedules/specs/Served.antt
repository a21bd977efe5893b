-- Whether every finish and every start has a start-to-finish lag.
use Rattle.std.specs.Prelude.{◌≡◌, ℕ, zero, suc, ◌≤◌, Bool, true, false, not, ◌&&◌, ◌||◌, is_some}
use Rattle.schedules.specs.Plans.{Lags}
use Rattle.schedules.specs.Tables.{start, finish}

-- one of p 1, p 2, .., p n
abbrev pub any_of : ℕ → (ℕ → Bool) → Bool
any_of zero p = false
any_of (suc k) p = any_of k p || p (suc k)

-- a lag stands to v from the start of one of the first n stages
abbrev pub lag_into : Lags → ℕ → ℕ → Bool
lag_into L v n = any_of n (λ k. is_some (L v (start k)))

-- a lag stands from u to the finish of one of the first n stages
abbrev pub lag_from : Lags → ℕ → ℕ → Bool
lag_from L u n = any_of n (λ j. is_some (L (finish j) u))

-- stage k of n has a start-to-finish lag into its finish and one from its start
abbrev pub served : ℕ → Lags → ℕ → Bool
served n L k = lag_into L (finish k) n && lag_from L (start k) n

-- 13: a finish or a start without a start-to-finish lag
abbrev pub unserved : ℕ → Lags → Bool
unserved n L = any_of n (λ k. not (served n L k))

-- a plan that passed 13
abbrev pub AllServed : ℕ → Lags → Type 0
AllServed n L = (k : ℕ) → 1 ≤ k → k ≤ n → served n L k ≡ true
