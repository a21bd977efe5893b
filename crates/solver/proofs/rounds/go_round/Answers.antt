use Rattle.solver.proofs.Raising.{went_alike, copied_alike}
use Rattle.solver.proofs.rounds.go_round.Goals as goal

pub returns-clause-round : goal.returns-clause-round
returns-clause-round g c =
    let net = g.met.N.Network.sound c.args.net.now in
    went_alike _ _ _ _ _ _ _ (copied_alike g.N.Kind.Mark.row _ net.few _ _ _ _ _ _ c.raise_all-changed.ensures c.copy_changed.ensures.totals) c.raise_all-changed.ensures
