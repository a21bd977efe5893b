-- What is true of plans: schedules or loops, exact times, the mirrored plan, and totals inside the
-- limits. A plan is w, m and L: the width of its rows, how many events it has, and the lags between
-- them.
use Rattle.std.specs.Prelude.{◌≡◌, ℕ, suc, ◌+◌, ◌*◌, ◌<◌, ◌≤◌, ◌⊎◌, ◌↔◌, List, ◌∷◌, reverse, length, Some, None}
use Rattle.rows.specs.Rows.{Row, plus, negated, Within}
use Rattle.schedules.specs.Plans.{Lags, Wide, columns, Limited, KeepsLags, Schedule, Schedulable, Earliest, FreeBelow, Latest, FreeAbove, Loop, reversed, Totals}
use Rattle.rows.specs.MaxPlus.{later_of, earlier_of}
use Rattle.schedules.specs.Rounds.{into, rounds, opening, everywhere, since_opening, Settled}

-- A plan has a schedule or a loop, and never both.
pub record ScheduleOrLoop : Type 0 where
  pub one : (w m : ℕ) (L : Lags) → Wide w m L → 1 ≤ m
      → Schedulable w m L ⊎ ((es : List ℕ) × Loop w m L es)
  pub never_both : (w m : ℕ) (L : Lags) → Schedulable w m L
      → (es : List ℕ) → Loop w m L es → ⊥
  -- totals that settle from everywhere are a schedule, shifted so that the opening is at zero
  pub settled : (w m : ℕ) (L : Lags) → Wide w m L → (k : ℕ) → 1 ≤ m → Settled m L (everywhere w) k
      → Schedule w m L (since_opening w (rounds m L (everywhere w) k))

-- the later and the earlier of two times that keep the lags keep them, and so do times all shifted
-- alike
pub record Combine (w m : ℕ) (L : Lags) : Type 0 where
  pub later : (x y : ℕ → Row) → KeepsLags w m L x → KeepsLags w m L y
      → KeepsLags w m L (λ v. later_of (x v) (y v))
  pub earlier : (x y : ℕ → Row) → KeepsLags w m L x → KeepsLags w m L y
      → KeepsLags w m L (λ v. earlier_of (x v) (y v))
  pub shifted : (x : ℕ → Row) (d : Row) → length d ≡ w → KeepsLags w m L x
      → KeepsLags w m L (λ v. plus (x v) d)

abbrev pub TimesCombine : Type 0
TimesCombine = (w m : ℕ) (L : Lags) → Wide w m L → Combine w m L

-- totals from the opening settle within m - 1 rounds, and they are the least times
pub record LeastExact (w m : ℕ) (L : Lags) : Type 0 where
  pub settles : (k : ℕ) → m ≤ suc k → Settled m L (opening w) k
  pub earliest : (k : ℕ) → Settled m L (opening w) k → (e : ℕ) (r : Row) → e < m
      → rounds m L (opening w) k e ≡ Some r → Earliest w m L e r
  -- an event that they do not reach has no least time
  pub free : (k : ℕ) → Settled m L (opening w) k → 1 ≤ w → (e : ℕ) → e < m
      → rounds m L (opening w) k e ≡ None → FreeBelow w m L e

-- so it is in every plan that has a schedule
abbrev pub TimesAreExact : Type 0
TimesAreExact =
    (w m : ℕ) (L : Lags) → Wide w m L → 1 ≤ m → Schedulable w m L → LeastExact w m L

-- the totals of the plan with its lags the other way round are the greatest times, with every sign
-- changed
pub record GreatestExact (w m : ℕ) (L : Lags) : Type 0 where
  pub latest : (k : ℕ) → Settled m (reversed L) (opening w) k → (e : ℕ) (r : Row) → e < m
      → rounds m (reversed L) (opening w) k e ≡ Some r → Latest w m L e (negated r)
  pub free : (k : ℕ) → Settled m (reversed L) (opening w) k → 1 ≤ w → (e : ℕ) → e < m
      → rounds m (reversed L) (opening w) k e ≡ None → FreeAbove w m L e

abbrev pub LatestAreExact : Type 0
LatestAreExact =
    (w m : ℕ) (L : Lags) → Wide w m L → 1 ≤ m → Schedulable w m L → GreatestExact w m L

-- the plan with its lags the other way round has the same schedules with every sign changed, and so
-- the greatest times, and the same loops the other way round
pub record Mirrors (w m : ℕ) (L : Lags) : Type 0 where
  pub schedule : (x : ℕ → Row)
      → Schedule w m L x ↔ Schedule w m (reversed L) (λ v. negated (x v))
  pub schedulable : Schedulable w m L ↔ Schedulable w m (reversed L)
  pub latest : (e : ℕ) (r : Row) → Latest w m L e r ↔ Earliest w m (reversed L) e (negated r)
  pub free : (e : ℕ) → FreeAbove w m L e ↔ FreeBelow w m (reversed L) e
  -- a loop of the reversed plan, read the other way round from its first event, is one of the plan
  pub loop : (e : ℕ) (es : List ℕ) → Loop w m (reversed L) (e ∷ es) → Loop w m L (e ∷ reverse es)

abbrev pub ReversalMirrors : Type 0
ReversalMirrors = (w m : ℕ) (L : Lags) → Wide w m L → Mirrors w m L

-- k rounds go no further than k times the lags' limit b. With room for m + 1 lags, no sum of the
-- first m + 1 rounds is beyond the limit.
pub record InsideFrom (start : ℕ → Totals) : Type 0 where
  pub totals : (w b m : ℕ) (L : Lags) → Limited b m L → (k v : ℕ) (r : Row) → v < m
      → rounds m L (start w) k v ≡ Some r → Within (k * b) r
  pub sums : (w b m : ℕ) (L : Lags) → Limited b m L
      → (limit k : ℕ) → k ≤ m → (m + 1) * b ≤ limit → (v u : ℕ) (t a : Row) → v < m → u < m
      → rounds m L (start w) k u ≡ Some t → L v u ≡ Some a → Within limit (plus t a)
  pub folds : (w b m : ℕ) (L : Lags) → Limited b m L
      → (limit k : ℕ) → k ≤ m → (m + 1) * b ≤ limit → (v n : ℕ) (r : Row) → v < m → n ≤ m
      → into L (rounds m L (start w) k) v n ≡ Some r → Within limit r
  -- and every total keeps its width
  pub wide : (w m : ℕ) (L : Lags) → Wide w m L → (k : ℕ)
      → Wide w m (columns (rounds m L (start w) k))

abbrev pub SumsStayInside : Type 0
SumsStayInside = InsideFrom opening × InsideFrom everywhere
