use Rattle.std.proofs.Common.{rules}
use Rattle.rows.proofs.Sums.{negated-minus}
use Rattle.marks.proofs.Turning.{sum_turned}
use Rattle.marks.proofs.turned.TurnedMark.add.Goals as goal

pub returns : goal.returns
returns g c =
    sum_turned g.M.Mark.row _ _ c.take.result c.map.result (search rules) (negated-minus (g.M.Mark.row c.args.self.inner) (g.M.Mark.amount c.args.lag)) c.take.ensures
