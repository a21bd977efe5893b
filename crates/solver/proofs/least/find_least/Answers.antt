use Rattle.std.proofs.Common.{rules, sym}
use Rattle.solver.proofs.Opening.{least_ends, rest_none}
use Rattle.solver.proofs.Resting.{rest_least}
use Rattle.solver.proofs.least.find_least.Goals as goal

pub returns-clause-sought : goal.returns-clause-sought
returns-clause-sought g c =
    let net = g.met.N.Network.sound c.args.net.now in
    let rest = rest_none g.N.Network g.N.Kind.Mark c.args.net.now _ _ _ c.from_rest.result (search rules) c.from_rest.ensures.ends in
    rw (sym rest.1) (least_ends g.N.Network g.N.Kind.Mark c.args.net.now _ _ _ c.from_opening.result (λ k h. rest_least _ _ _ net g.met.N.Kind.Mark.wide_low c.reach.result c.with_event-reached.result c.first_events.result c.without-rest.result c.reach.ensures c.with_event-reached.ensures (rw c.events.ensures at c.first_events.ensures) c.without-rest.ensures rest.0 _ k h) c.from_opening.ensures.ends)
