use Rattle.solver.proofs.Cells.{times_sized}
use Rattle.solver.proofs.Repairing.{ended_least}
use Rattle.solver.proofs.settle.settle_from.Goals as goal

pub returns-clause-least : goal.returns-clause-least
returns-clause-least g c =
    let net = g.met.N.Network.sound c.args.net.now in
    ended_least g.N.Network g.N.Kind.Mark c.args.net.now net _ _ (times_sized g.N.Kind.Mark.WIDTH _ g.N.Kind.Mark.row g.met.N.Kind.Mark.row_wide _) _ _ _ c.go_rounds.result c.go_rounds.ensures.ended
