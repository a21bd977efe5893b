use Rattle.std.proofs.Common.{refl}
use Rattle.schedules.specs.Tables.{times}
use Rattle.solver.proofs.Cells.{times_sized}
use Rattle.solver.proofs.Going.{rounds_fit}
use Rattle.solver.proofs.Repairing.{covered_repaired, covers_all, covers_unless_from}
use Rattle.solver.proofs.repair.repair.Goals as goal

pub keeps_lag-requires-clause-fits : goal.keeps_lag-requires-clause-fits
keeps_lag-requires-clause-fits g c =
    let net = g.met.N.Network.sound c.args.net.now in
    rounds_fit _ _ _ c.requires.leaves 0 net.some

pub returns-then-keeps_lag-clause-ends : goal.returns-then-keeps_lag-clause-ends
returns-then-keeps_lag-clause-ends g c =
    let net = g.met.N.Network.sound c.args.net.now in
    let sized = times_sized g.N.Kind.Mark.WIDTH _ g.N.Kind.Mark.row g.met.N.Kind.Mark.row_wide c.args.work.now.totals.now in
    let here = c.keeps_lag.ensures.0 c.if-keeps_lag.true in
    (covered_repaired g.N.Kind.Mark.WIDTH _ net.few _ net.wide _ sized c.requires.known (covers_all g.N.Kind.Mark.WIDTH _ _ _ c.requires.known c.args.to c.args.from c.requires.keeps here), refl)

pub raise_from-requires-clause-keeps : goal.raise_from-requires-clause-keeps
raise_from-requires-clause-keeps g c =
    covers_unless_from g.N.Kind.Mark.WIDTH _ _ (times g.N.Kind.Mark.row c.args.work.now.totals.now) c.requires.known c.args.to c.args.from c.requires.keeps
