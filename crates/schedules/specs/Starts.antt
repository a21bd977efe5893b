-- Starts, finishes and due times, over the start-to-finish lags: the lags to a finish of any stage
-- from a start of any stage.
use Rattle.std.specs.Prelude.{◌≡◌, ℕ, ◌≤◌, ◌↔◌, Some, None, Option}
use Rattle.rows.specs.Rows.{Row, NotBefore}
use Rattle.rows.specs.MaxPlus.{added, taken}
use Rattle.rows.specs.Extremes.{LatestOf, EarliestOf, Among}
use Rattle.schedules.specs.Plans.{Lags, Totals, Wide, columns}
use Rattle.schedules.specs.Tables.{start, finish, events}

-- v finishes at the latest of start plus lag over the start-to-finish lags into it, or has no
-- finish if there is none
abbrev pub Finished : ℕ → Lags → Totals → ℕ → Option Row → Type 0
Finished n L x v = LatestOf (Among n (λ k. added (x (start k)) (L v (start k))))

-- u may start at the earliest of due time minus lag over the start-to-finish lags from it, or at
-- any time if there is none
abbrev pub Allowed : ℕ → Lags → Totals → ℕ → Option Row → Type 0
Allowed n L d u = EarliestOf (Among n (λ j. taken (d (finish j)) (L (finish j) u)))

-- the finishes y of the starts x
pub record Finishes (n : ℕ) (L : Lags) (x y : Totals) : Type 0 where
  pub opening : y 0 ≡ None
  pub starts : (k : ℕ) → 1 ≤ k → k ≤ n → y (start k) ≡ None
  pub finishes : (k : ℕ) → 1 ≤ k → k ≤ n → Finished n L x (finish k) (y (finish k))

-- from the starts x no stage finishes after its due time in d
abbrev pub InTime : ℕ → Lags → Totals → Totals → Type 0
InTime n L d x =
    (j k : ℕ) (due end : Row) → 1 ≤ j → j ≤ n → 1 ≤ k → k ≤ n → d (finish j) ≡ Some due
    → added (x (start k)) (L (finish j) (start k)) ≡ Some end → NotBefore due end

-- no start of x is after that of y, where both are there
abbrev pub NoneAfter : ℕ → Totals → Totals → Type 0
NoneAfter n y x =
    (k : ℕ) (r s : Row) → 1 ≤ k → k ≤ n → y (start k) ≡ Some r → x (start k) ≡ Some s
    → NotBefore r s

-- no start-to-finish lag stands from the start u
abbrev pub Unbound : ℕ → Lags → ℕ → Type 0
Unbound n L u = (j : ℕ) → 1 ≤ j → j ≤ n → L (finish j) u ≡ None

-- y are the greatest starts of width w that are in time; a start is free exactly when no
-- start-to-finish lag stands from it
pub record Backward (w n : ℕ) (L : Lags) (d y : Totals) : Type 0 where
  pub opening : y 0 ≡ None
  pub finishes : (k : ℕ) → 1 ≤ k → k ≤ n → y (finish k) ≡ None
  pub in_time : InTime n L d y
  pub greatest : (x : Totals) → Wide w (events n) (columns x) → InTime n L d x → NoneAfter n y x
  pub free : (k : ℕ) → 1 ≤ k → k ≤ n → (y (start k) ≡ None) ↔ Unbound n L (start k)
