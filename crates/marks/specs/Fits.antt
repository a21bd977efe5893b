-- Optional totals and lags, by the optional rows that they mean.
use Rattle.std.specs.Prelude.{Option}
use Rattle.std.specs.Option.{IfSome, option_map}
use Rattle.rows.specs.Rows.{Row, Within}
use Rattle.rows.specs.Limits.{total_limit}
use Rattle.rows.specs.MaxPlus.{later, earlier, added, taken}
use Rattle.marks.specs.declared.kind.Mark.{Ghosts}

-- an optional row is no row, or within the limit of totals
abbrev pub FitsTotal : Option Row → Type 0
FitsTotal x = IfSome x (Within total_limit)

-- the later of what two totals of the kind mean
abbrev pub later_row : {T L : Type 0} → Ghosts T L → Option T → Option T → Option Row
later_row kind one other = later (option_map kind.row one) (option_map kind.row other)

-- the earlier of the two
abbrev pub earlier_row : {T L : Type 0} → Ghosts T L → Option T → Option T → Option Row
earlier_row kind one other = earlier (option_map kind.row one) (option_map kind.row other)

-- what a total means plus what a lag means
abbrev pub sum_row : {T L : Type 0} → Ghosts T L → Option T → Option L → Option Row
sum_row kind total lag = added (option_map kind.row total) (option_map kind.amount lag)

-- what a total means minus what a lag means
abbrev pub difference_row : {T L : Type 0} → Ghosts T L → Option T → Option L → Option Row
difference_row kind total lag = taken (option_map kind.row total) (option_map kind.amount lag)
