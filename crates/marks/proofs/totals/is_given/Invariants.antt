use Rattle.std.proofs.Common.{◌≡◌, drop}
use Rattle.rows.specs.Limits.{given_limit}
use Rattle.rows.specs.Rows.{inside}
use Rattle.marks.proofs.totals.is_given.Given as goal

abbrev pub invariant-loop-index : goal.invariant-loop-index
invariant-loop-index g l = inside given_limit (drop l.index (g.K.Mark.row l.total)) ≡ inside given_limit (g.K.Mark.row l.total)
