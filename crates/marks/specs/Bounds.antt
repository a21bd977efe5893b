-- The limits by name.
use Rattle.std.specs.Prelude.{ℕ}
use Rattle.rows.specs.Limits.{lag_limit, total_limit, given_limit}
use Rattle.marks.specs.declared.numbers.Limit.{Limit}
use Rattle.marks.specs.declared.numbers.Limit.TheVariants.{Lag, Total, Given}

abbrev pub limit_of : Limit → ℕ
limit_of Lag = lag_limit
limit_of Total = total_limit
limit_of Given = given_limit
