-- Rounds from any first totals b: what they settle at, and how far they go.
use Rattle.std.specs.Prelude.{◌≡◌, ℕ, zero, suc, ◌+◌, ◌*◌, ◌<◌, ◌≤◌, ◌≢◌, ◌⊎◌, ◌↔◌, length, Some, None}
use Rattle.rows.specs.Rows.{Row, plus, Before, NotBefore, Within}
use Rattle.schedules.specs.Plans.{Lags, Totals, AtLeast, AllKnown, with_lag, Wide, columns, Limited, KeepsLags, Schedule, Reaches}
use Rattle.schedules.specs.Rounds.{into, rounds, total_of, since_opening, Settled}
use Rattle.schedules.specs.Walks.{Source}

-- no event of the times x is before its first total, where it has one
abbrev pub NotEarlier : ℕ → Totals → (ℕ → Row) → Type 0
NotEarlier m b x = (v : ℕ) → v < m → AtLeast (Some (x v)) (b v)

-- times that keep every lag, no event before its first total
abbrev pub TimesFrom : ℕ → ℕ → Lags → Totals → (ℕ → Row) → Type 0
TimesFrom w m L b x = KeepsLags w m L x × NotEarlier m b x

-- an event of the times x is at its total, where it has one
abbrev pub AtTotals : ℕ → Totals → (ℕ → Row) → Type 0
AtTotals m S x = (v : ℕ) (r : Row) → v < m → S v ≡ Some r → x v ≡ r

-- an event has a first total, or a chain of lags leads to it from one that has
abbrev pub ReachedFrom : ℕ → Lags → Totals → ℕ → Type 0
ReachedFrom m L b v =
    (b v ≢ None) ⊎ ((u : ℕ) × (b u ≢ None) × Reaches m L u v)

-- S are the least of the times from b: no such times have an event before its total, and some have
-- every event at its total; before every row some of those have an event without a total.
pub record LeastFrom (w m : ℕ) (L : Lags) (b S : Totals) : Type 0 where
  pub under : (x : ℕ → Row) → TimesFrom w m L b x → NotEarlier m S x
  pub met : (x : ℕ → Row) × TimesFrom w m L b x × AtTotals m S x
  pub free : 1 ≤ w → (e : ℕ) → e < m → S e ≡ None → (r : Row) → length r ≡ w
      → (x : ℕ → Row) × TimesFrom w m L b x × AtTotals m S x × Before (x e) r

-- Where some times keep the lags, rounds from b settle within m - 1, and the totals are then the
-- least times from b. An event has a total exactly where a chain reaches it, in any plan.
pub record FirstsExact (w m : ℕ) (L : Lags) (b : Totals) : Type 0 where
  pub settles : 1 ≤ m → (x : ℕ → Row) → KeepsLags w m L x
      → (k : ℕ) → m ≤ suc k → Settled m L b k
  pub least : (x : ℕ → Row) → KeepsLags w m L x
      → (k : ℕ) → Settled m L b k → LeastFrom w m L b (rounds m L b k)
  pub reached : (k : ℕ) → Settled m L b k → (v : ℕ) → v < m
      → (rounds m L b k v ≢ None) ↔ ReachedFrom m L b v

abbrev pub FirstsAreExact : Type 0
FirstsAreExact =
    (w m : ℕ) (L : Lags) (b : Totals) → Wide w m L → Wide w m (columns b) → FirstsExact w m L b

-- settled totals of which none is missing keep every lag, and they are a schedule, shifted so that
-- the opening is at zero
pub record KnownSchedule (w m : ℕ) (L : Lags) (S : Totals) : Type 0 where
  pub keeping : KeepsLags w m L (λ v. total_of w (S v))
  pub schedule : 1 ≤ m → Schedule w m L (since_opening w S)

abbrev pub KnownIsSchedule : Type 0
KnownIsSchedule =
    (w m : ℕ) (L : Lags) (b : Totals) → Wide w m L → Wide w m (columns b)
    → (k : ℕ) → Settled m L b k → AllKnown m (rounds m L b k) → KnownSchedule w m L (rounds m L b k)

-- the lags M ask no less than the lags L: times that keep those keep these
abbrev pub AsksMore : ℕ → ℕ → Lags → Lags → Type 0
AsksMore w m L M = (x : ℕ → Row) → KeepsLags w m M x → KeepsLags w m L x

-- Lags are put in one after the other, and the least times from b repaired after each.
pub record RepairsStayLeast : Type 0 where
  -- a lag put where none stood, or where one stood that is not after it, asks no less
  pub asks_more : (w m : ℕ) (L : Lags) (v u : ℕ) (a : Row) → length a ≡ w
      → ((l : Row) → L v u ≡ Some l → NotBefore a l) → AsksMore w m L (with_lag L v u a)
  -- where S are least from b over L and R least from S over M, R are least from b over M
  pub least : (w m : ℕ) (L M : Lags) (b S R : Totals) → AsksMore w m L M → AllKnown m S
      → LeastFrom w m L b S → LeastFrom w m M S R → LeastFrom w m M b R
  -- with first totals within c and lags within a they stay within c + m * a
  pub inside : (a c w m : ℕ) (L : Lags) (b S : Totals) → 1 ≤ m → Wide w m L → Wide w m (columns b)
      → Limited a m L → Limited c m (columns b) → AllKnown m b → AllKnown m S
      → LeastFrom w m L b S → Limited (c + m * a) m (columns S)

-- First totals within c and lags within a: k rounds go no further than c + k * a. With room for n
-- lags, no sum of the first n rounds is beyond the limit.
pub record FirstsInside (a c m : ℕ) (L : Lags) (b : Totals) : Type 0 where
  pub totals : (k v : ℕ) (r : Row) → v < m → rounds m L b k v ≡ Some r → Within (c + k * a) r
  pub sums : (n limit k : ℕ) → k < n → c + n * a ≤ limit → (v u : ℕ) (t l : Row) → v < m → u < m
      → rounds m L b k u ≡ Some t → L v u ≡ Some l → Within limit (plus t l)
  pub folds : (n limit k : ℕ) → k < n → c + n * a ≤ limit → (v i : ℕ) (r : Row) → v < m → i ≤ m
      → into L (rounds m L b k) v i ≡ Some r → Within limit r

abbrev pub FirstsStayInside : Type 0
FirstsStayInside =
    (a c m : ℕ) (L : Lags) (b : Totals) → Limited a m L → Limited c m (columns b)
    → FirstsInside a c m L b

-- the total of an event that is not at its first total is that of the event it came from, plus the
-- lag from there
abbrev pub CameFrom : ℕ → Lags → Totals → Totals → (ℕ → ℕ) → Type 0
CameFrom m L b R from = (v : ℕ) → v < m → R v ≢ b v → Source m L R v (from v) (R v)

-- so many steps back along `from`
abbrev pub back_along : (ℕ → ℕ) → ℕ → ℕ → ℕ
back_along from zero v = v
back_along from (suc i) v = back_along from i (from v)

-- So many steps back along `from`, k at most, lead from v to an event at its first total.
pub record Rooted (m : ℕ) (b R : Totals) (from : ℕ → ℕ) (k v : ℕ) : Type 0 where
  pub steps : ℕ
  pub few : steps ≤ k
  pub inside : back_along from steps v < m
  pub first : R (back_along from steps v) ≡ b (back_along from steps v)
