use Rattle.std.proofs.Common.{arith}
use Rattle.solver.proofs.Bits.{added_more}
use Rattle.solver.proofs.Visiting.{visiting_first, visiting_in, visiting_more, visiting_all}
use Rattle.solver.proofs.reach.reach_over.Goals as goal

pub loop-from-init : goal.loop-from-init
loop-from-init g c =
    let net = g.met.N.Network.sound c.args.net.now in
    visiting_first _ _ _ _ net.few _ _ c.requires.event (c.requires.standing c.args.event _ c.requires.event c.word_of-reached.ensures) c.with_event-visited.ensures

pub word_of-requires : goal.word_of-requires
word_of-requires g c =
    let net = g.met.N.Network.sound c.args.net.now in
    let split = c.in-Some.ensures in
    c.requires.callable c.in-Some.from (visiting_in _ _ _ _ net.few _ _ c.loop-from.invariant _ _ c.both.ensures c.without.ensures c.in-Some.from split.inside split.has)

pub loop-from-smaller : goal.loop-from-smaller
loop-from-smaller g c =
    let split = c.in-Some.ensures in
    let unset = ((c.without.ensures c.in-Some.from split.inside).0 split.has).1 in
    omega (arith, c.with_event-visited-in-Some.type_inv, added_more c.loop-from.visited c.in-Some.from _ split.inside unset c.with_event-visited-in-Some.ensures)

pub loop-from-preserved : goal.loop-from-preserved
loop-from-preserved g c =
    let net = g.met.N.Network.sound c.args.net.now in
    let split = c.in-Some.ensures in
    let inside = visiting_in _ _ _ _ net.few _ _ c.loop-from.invariant _ _ c.both.ensures c.without.ensures c.in-Some.from split.inside split.has in
    visiting_more _ _ _ _ net.few _ _ c.loop-from.invariant _ _ c.both.ensures c.without.ensures c.in-Some.from split.inside split.has _ _ _ c.with_event-visited-in-Some.ensures (c.requires.standing c.in-Some.from _ inside c.word_of.ensures) c.either-reached.ensures

pub returns : goal.returns
returns g c =
    let net = g.met.N.Network.sound c.args.net.now in
    visiting_all _ _ _ _ net.few _ _ c.loop-from.invariant _ _ c.both.ensures c.without.ensures c.in_default.ensures
