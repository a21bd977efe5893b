use Rattle.solver.proofs.Cells.{times_sized}
use Rattle.solver.proofs.Repairing.{ended_repair}
use Rattle.solver.proofs.repair.raise_from.Goals as goal

pub returns-clause-ends : goal.returns-clause-ends
returns-clause-ends g c =
    let net = g.met.N.Network.sound c.args.net.now in
    ended_repair g.N.Network g.N.Kind.Mark c.args.net.now net _ _ (times_sized g.N.Kind.Mark.WIDTH _ g.N.Kind.Mark.row g.met.N.Kind.Mark.row_wide _) _ _ _ c.requires.known c.go_rounds.result _ c.err.ensures.value c.go_rounds.ensures.ended
