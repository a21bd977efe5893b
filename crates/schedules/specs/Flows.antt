-- The flow of a plan of n stages, for minutes: the least f that every stage can be held to, from its
-- start to its finish, in one schedule.
use Rattle.std.specs.Prelude.{◌≡◌, ℕ, ◌+◌, ◌<◌, ◌≤◌, ◌%◌, Bool, cond, ◌&&◌, ◌==◌, length, Some, None, Option}
use Rattle.rows.specs.MaxPlus.{later}
use Rattle.rows.specs.Rows.{Row, plus, negated, Before, NotBefore}
use Rattle.schedules.specs.Minutes.{minutes}
use Rattle.schedules.specs.Plans.{Lags, Totals, Schedule}
use Rattle.schedules.specs.Tables.{start, finish, events}

-- What it means that a stage ends within f minutes stands here: in `EndsWithin`, and as lags in
-- `back_over_stage` and `flow_lags`.

-- no stage finishes more than f after its start
abbrev pub EndsWithin : ℕ → ℕ → (ℕ → Row) → Type 0
EndsWithin n f x =
    (k : ℕ) → 1 ≤ k → k ≤ n → NotBefore (plus (x (start k)) (minutes f)) (x (finish k))

-- v is the start of a stage and u its finish; of any stage, also past those of the plan
abbrev pub back_over_stage : ℕ → ℕ → Bool
back_over_stage v u = v % 2 == 1 && u == v + 1

-- minus f to the start of each stage from its finish
abbrev pub flow_lags : ℕ → Lags
flow_lags f v u = cond (back_over_stage v u) (Some (negated (minutes f))) None

-- the lags L and these: where both stand at a pair, the later of the two
abbrev pub with_flow : ℕ → Lags → Lags
with_flow f L v u = later (L v u) (flow_lags f v u)

-- a schedule of which every stage ends within f
pub record WithinFlow (n : ℕ) (L : Lags) (f : ℕ) (x : ℕ → Row) : Type 0 where
  pub schedule : Schedule 1 (events n) L x
  pub ends : EndsWithin n f x

-- r is the time of event e in some schedule within f, and none of them has e after r.
pub record LatestWithin (n : ℕ) (L : Lags) (f e : ℕ) (r : Row) : Type 0 where
  pub attained : (x : ℕ → Row) × (WithinFlow n L f x × (x e ≡ r))
  pub greatest : (x : ℕ → Row) → WithinFlow n L f x → NotBefore r (x e)

-- After every row of one part some schedule within f has e.
abbrev pub FreeWithin : ℕ → Lags → ℕ → ℕ → Type 0
FreeWithin n L f e =
    (r : Row) → length r ≡ 1 → (x : ℕ → Row) × (WithinFlow n L f x × Before r (x e))

-- the greatest time of an event over the schedules within f; none where it is free
abbrev pub GreatestWithin : ℕ → Lags → ℕ → ℕ → Option Row → Type 0
GreatestWithin n L f e None = FreeWithin n L f e
GreatestWithin n L f e (Some r) = LatestWithin n L f e r

-- Some schedule is within f, none is within less, and y are the greatest times over those within f.
pub record Flow (n : ℕ) (L : Lags) (f : ℕ) (y : Totals) : Type 0 where
  pub reached : (x : ℕ → Row) × WithinFlow n L f x
  pub least : (g : ℕ) (x : ℕ → Row) → WithinFlow n L g x → f ≤ g
  pub times : (e : ℕ) → e < events n → GreatestWithin n L f e (y e)
