use Rattle.std.proofs.Common.{None, ◌<◌, length, arith, refl}
use Rattle.std.proofs.lemmas.List.{get_or_read}
use Rattle.solver.proofs.Copying.{copied_more}
use Rattle.solver.proofs.rounds.copy_changed.Goals as goal

pub loop-event-preserved : goal.loop-event-preserved
loop-event-preserved g c =
    let s = c.in-Some.ensures in
    let in_word = c.loop-event.invariant.0.left c.in-Some.event s.inside s.has in
    let n_in : c.in-Some.event < length c.args.next.now = c.requires.next c.in-Some.event s.inside in_word in
    let t_in : c.in-Some.event < length c.loop-event.totals = omega (arith, c.loop-event.auto.totals, c.requires.totals c.in-Some.event s.inside in_word) in
    let k_in : c.in-Some.event < length c.loop-event.came = omega (arith, c.loop-event.auto.came, c.requires.came c.in-Some.event s.inside in_word) in
    (copied_more None _ _ c.args.next.now _ c.loop-event.totals c.loop-event.invariant.0 c.in-Some.event c.in-Some.left _ s t_in (get_or_read c.args.next.now c.in-Some.event _ n_in c.index-next-event.is None), copied_more 0 _ _ c.args.sources.now _ c.loop-event.came c.loop-event.invariant.1 c.in-Some.event c.in-Some.left _ s k_in refl)
