-- The checks of a call, in their order: the first one missed decides.
use Rattle.std.specs.Prelude.{◌≡◌, ℕ, zero, suc, ◌+◌, ◌*◌, ◌<◌, ◌≤◌, Bool, true, false, cond, not, ◌&&◌, ◌||◌, List, [], ◌∷◌, length, ℤ, Some, None, Option, ◌==◌, nat_lt}
use Rattle.std.specs.List.{list_any}
use Rattle.rows.specs.Limits.{given_limit, lag_limit, most_stages}
use Rattle.rows.specs.Rows.{Row, inside, Within}
use Rattle.marks.specs.declared.fault.Layer.{Layer}
use Rattle.marks.specs.declared.fault.Layer.TheVariants.{Mark, Plan}
use Rattle.schedules.specs.Plans.{Lags, Totals}
use Rattle.schedules.specs.Served.{unserved}
use Rattle.schedules.specs.Tables.{events, places}
use Rattle.marks.specs.Faults.{Refusal}

-- a check: what a refusal by it names, and whether it is missed
pub record Check : Type 0 where
  pub number : ℕ
  pub layer : Layer
  pub missed : Bool

-- a check of the plan's own layer
abbrev pub plan_check : ℕ → Bool → Check
plan_check n b = record { number = n; layer = Plan; missed = b }

-- the first check that is missed
abbrev pub first_missed : List Check → Option Refusal
first_missed [] = None
first_missed (c ∷ cs) =
    cond c.missed (Some (record { number = c.number; layer = c.layer })) (first_missed cs)

-- 3: the number n of stages is 0 or above the most
abbrev pub stages_missed : ℕ → ℕ → Bool
stages_missed most n = n == 0 || nat_lt most n

-- 4: the table has not exactly m × m places
abbrev pub table_missed : ℕ → ℕ → Bool
table_missed n len = not (len == places n)

-- 5: a row has fewer than m places; of each row its number of places
abbrev pub rows_missed : ℕ → List ℕ → Bool
rows_missed n rows = list_any (λ len. nat_lt len (events n)) rows

-- 9: an event is above 2n
abbrev pub event_missed : ℕ → ℕ → Bool
event_missed n event = nat_lt (2 * n) event

-- 9: a stage is 0 or above n
abbrev pub stage_missed : ℕ → ℕ → Bool
stage_missed n stage = stage == 0 || nat_lt n stage

-- 10: the numbers are not the parts of a lag of width w
abbrev pub lag_missed : ℕ → List ℤ → Bool
lag_missed w parts = not (length parts == w && inside lag_limit parts)

-- 12: a total is absent or has a part beyond the limit of given totals
abbrev pub total_missed : Option Row → Bool
total_missed None = true
total_missed (Some r) = not (inside given_limit r)

-- the same of one of the events first, first + step, first + 2 step, .. , so many of them
abbrev pub totals_missed : Totals → ℕ → ℕ → ℕ → Bool
totals_missed x first step zero = false
totals_missed x first step (suc count) =
    total_missed (x (first + step * count)) || totals_missed x first step count

-- The head of every list, where a call allows so many stages at the most: 3, 4 and 5.
abbrev pub head_checks : ℕ → ℕ → ℕ → List ℕ → List Check
head_checks most n len rows =
    plan_check 3 (stages_missed most n)
    ∷ plan_check 4 (table_missed n len)
    ∷ plan_check 5 (rows_missed n rows)
    ∷ []

abbrev pub event_check : ℕ → ℕ → Check
event_check n event = plan_check 9 (event_missed n event)

abbrev pub stage_check : ℕ → ℕ → Check
stage_check n stage = plan_check 9 (stage_missed n stage)

-- the one check of the marks' layer
abbrev pub lag_check : ℕ → List ℤ → Check
lag_check w parts = record { number = 10; layer = Mark; missed = lag_missed w parts }

abbrev pub totals_check : Totals → ℕ → ℕ → ℕ → Check
totals_check x first step count = plan_check 12 (totals_missed x first step count)

-- of n stages and their lags
abbrev pub served_check : ℕ → Lags → Check
served_check n L = plan_check 13 (unserved n L)

-- a total that passed 12
abbrev pub Given : Option Row → Type 0
Given x = (r : Row) × (x ≡ Some r) × Within given_limit r

abbrev pub AllGiven : Totals → ℕ → ℕ → ℕ → Type 0
AllGiven x first step count = (k : ℕ) → k < count → Given (x (first + step * k))

-- a plan that passed 3 and 4: m is its number of events, and its table has m × m places
pub record Laid (n len m : ℕ) : Type 0 where
  pub count : m ≡ events n
  pub some : 1 ≤ n
  pub most : n ≤ most_stages
  pub full : len ≡ m * m

-- and 5: every row has m places at least
abbrev pub LongEnough : ℕ → List ℕ → Type 0
LongEnough m [] = Unit {0}
LongEnough m (row ∷ rows) = (m ≤ row) × LongEnough m rows

pub record HeadPassed (n len : ℕ) (rows : List ℕ) (m : ℕ) : Type 0 where
  pub laid : Laid n len m
  pub long : LongEnough m rows
