-- latest as earliest: the times that it writes are the least times of the plan with every lag the
-- other way round, over turned marks.
use Rattle.std.specs.Prelude.{◌≡◌, ℕ, ◌<◌, List, None, Option, map, slice_index_or}
use Rattle.std.specs.Option.{option_map}
use Rattle.marks.specs.declared.kind.Mark.{Ghosts}
use Rattle.marks.specs.declared.turned.Turned.{Turned}
use Rattle.schedules.specs.Answers.{LeastTimes}
use Rattle.schedules.specs.Tables.{events, place}
use Rattle.plan.specs.Calls.{TimesWritten}

-- between m events `mirror` has each lag of the table the other way round, and no other lag
abbrev pub IsMirror : {A : Type 0} → (m : ℕ) → (table mirror : List (Option A)) → Type 0
IsMirror m table mirror =
    (v u : ℕ) → v < m → u < m
    → slice_index_or mirror (place m v u) None ≡ slice_index_or table (place m u v) None

-- every total of a row, turned; where there is none, there is none
abbrev pub all_turned : {T : Type 0} → List (Option T) → List (Option (Turned T))
all_turned row = map (option_map (λ t. record { inner = t })) row

-- Of every table that mirrors the plan's, what earliest writes over the kind `turned` is `after`,
-- all turned, in the row `answer`, all turned. It is said of what totals mean, not of stored
-- numbers.
abbrev pub LatestIsEarliestReversed :
    {T A : Type 0} → Ghosts (Turned T) A → ℕ → List (Option A) → (answer after : List (Option T))
    → Type 0
LatestIsEarliestReversed {A = A} turned n table answer after =
    (mirror : List (Option A)) → IsMirror (events n) table mirror
    → TimesWritten LeastTimes turned n mirror (all_turned answer) (all_turned after)
