use Rattle.std.proofs.Common.{rules}
use Rattle.rows.proofs.Sums.{negated-plus}
use Rattle.marks.proofs.Turning.{sum_turned}
use Rattle.marks.proofs.turned.TurnedMark.take.Goals as goal

pub returns : goal.returns
returns g c =
    sum_turned g.M.Mark.row _ _ c.add.result c.map.result (search rules) (negated-plus (g.M.Mark.row c.args.self.inner) (g.M.Mark.amount c.args.lag)) c.add.ensures
