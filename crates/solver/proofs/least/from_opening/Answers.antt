use Rattle.std.proofs.Common.{◌<◌, length, arith}
use Rattle.solver.proofs.Opening.{leaves_opening, opening_ends, opening_row}
use Rattle.solver.proofs.least.from_opening.Goals as goal

pub go_rounds-requires-clause-leaves : goal.go_rounds-requires-clause-leaves
go_rounds-requires-clause-leaves g c =
    let net = g.met.N.Network.sound c.args.net.now in
    let room : 0 < length c.fill_totals.new.totals = omega (arith, c.fill_totals.auto.totals, c.requires.room.0, net.some) in
    leaves_opening _ _ _ net _ (opening_row g.N.Kind.Mark.row _ _ c.fill_totals.new.totals c.zero.result c.zero.ensures room (rw c.events.ensures at c.fill_totals.ensures))

pub returns-clause-ends : goal.returns-clause-ends
returns-clause-ends g c =
    let net = g.met.N.Network.sound c.args.net.now in
    let room : 0 < length c.fill_totals.new.totals = omega (arith, c.fill_totals.auto.totals, c.requires.room.0, net.some) in
    opening_ends g.N.Network g.N.Kind.Mark c.args.net.now _ _ _ _ _ c.go_rounds.result _ c.err.ensures.value (opening_row g.N.Kind.Mark.row _ _ c.fill_totals.new.totals c.zero.result c.zero.ensures room (rw c.events.ensures at c.fill_totals.ensures)) c.go_rounds.ensures.ended
