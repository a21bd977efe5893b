use Rattle.std.proofs.Common.{arith}
use Rattle.solver.proofs.Bits.{without_fewer}
use Rattle.solver.proofs.Rooting.{rooting_more}
use Rattle.solver.proofs.reach.first_roots.Goals as goal

pub loop-event-smaller : goal.loop-event-smaller
loop-event-smaller g c =
    omega (arith, c.in-Some.ensures.less, without_fewer _ _ _ c.without-left.type_inv c.without-left.ensures)

pub loop-event-preserved : goal.loop-event-preserved
loop-event-preserved g c =
    rooting_more _ _ _ _ _ _ c.loop-event.invariant _ _ _ _ _ _ _ _ c.in-Some.ensures c.reach_over-reached.ensures c.with_event-roots.ensures c.either.ensures c.with_event-seen.ensures c.without-left.ensures
