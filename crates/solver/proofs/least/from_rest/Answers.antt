use Rattle.std.proofs.Common.{refl, rules, arith}
use Rattle.schedules.proofs.Fewer.{into_has, loop_kept}
use Rattle.schedules.specs.Plans.{lags_into}
use Rattle.solver.proofs.Cells.{times_sized}
use Rattle.solver.proofs.Masking.{masked_stands}
use Rattle.solver.proofs.Opening.{rounds_end, word_at_zero, word_leaves}
use Rattle.solver.proofs.Resting.{into_net, none_stand, roots_loop_free}
use Rattle.solver.specs.Solving.{RestEnds}
use Rattle.solver.specs.Words.{in_word}
use Rattle.solver.proofs.least.from_rest.Goals as goal

pub returns-then-not-leads_on-clause-ends : goal.returns-then-not-leads_on-clause-ends
returns-then-not-leads_on-clause-ends g c =
    let net = g.met.N.Network.sound c.args.net.now in
    (none_stand _ _ net.few _ c.mask-standing.result (omega (arith, net.few, c.told-standing, c.mask-standing.ensures.long)) (masked_stands _ _ _ _ _ (omega (arith, net.few, c.told-standing)) c.requires.standing c.mask-standing.ensures.masked) (c.leads_on.ensures (search rules)), refl)

pub go_rounds-requires-clause-standing : goal.go_rounds-requires-clause-standing
go_rounds-requires-clause-standing g c =
    let net = g.met.N.Network.sound c.args.net.now in
    masked_stands _ _ _ _ _ (omega (arith, net.few, c.told-standing)) c.requires.standing c.mask-standing.ensures.masked

pub go_rounds-requires-clause-leaves : goal.go_rounds-requires-clause-leaves
go_rounds-requires-clause-leaves g c =
    let net = g.met.N.Network.sound c.args.net.now in
    word_leaves g.N.Network g.N.Kind.Mark c.args.net.now c.zero.result c.zero.ensures c.roots_of-roots.result c.fill_events.new.totals (rw c.events.ensures at c.fill_events.ensures.inside) (rw c.events.ensures at c.fill_events.ensures.outside) _ (into_net _ _ _ net c.args.rest)

pub returns-clause-ends : goal.returns-clause-ends
returns-clause-ends g c =
    let net = g.met.N.Network.sound c.args.net.now in
    let L = g.N.Network.weight c.args.net.now in
    let m = g.N.Network.size c.args.net.now in
    let row = g.N.Kind.Mark.row in
    let at_zero = word_at_zero g.N.Network g.N.Kind.Mark c.args.net.now c.zero.result c.zero.ensures c.roots_of-roots.result c.fill_events.new.totals (rw c.events.ensures at c.fill_events.ensures.inside) (rw c.events.ensures at c.fill_events.ensures.outside) in
    rounds_end g.N.Kind.Mark.WIDTH m (lags_into (in_word c.args.rest) L) _ _ _ _ _ (RestEnds g.N.Network g.N.Kind.Mark c.args.net.now c.args.rest c.args.loop_row.now c.go_rounds.new.loop_row) (λ k at same. (roots_loop_free _ m L net c.args.rest c.requires.rest c.roots_of-roots.result c.roots_of-roots.ensures _ (times_sized g.N.Kind.Mark.WIDTH m row g.met.N.Kind.Mark.row_wide c.fill_events.new.totals) at_zero k at.settled, same)) (λ len shown. (shown.0, loop_kept m (lags_into (in_word c.args.rest) L) L (into_has (in_word c.args.rest) L m) _ _ shown.1, shown.2)) c.go_rounds.result _ c.err.ensures.value c.go_rounds.ensures.ended
