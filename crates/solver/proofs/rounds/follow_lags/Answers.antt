use Rattle.std.proofs.Common.{◌≡◌, ◌<◌, length, Some, None, sym, ap, ◌∙◌, arith, rules, get_or-set_other, get_or-set_same}
use Rattle.std.specs.Option.{option_map}
use Rattle.schedules.specs.Tables.{times}
use Rattle.solver.proofs.Cells.{cell_is, SumAlong-added, times_set_same, times_set_other}
use Rattle.solver.proofs.Raising.{event_in, followed_nothing, followed_unbeaten, followed_risen}
use Rattle.solver.proofs.rounds.follow_lags.Goals as goal
use Rattle.solver.proofs.rounds.follow_lags.Goals.{in_default-via-in-None-1, in_default-via-in-Some-follow+else-is_after}

pub loop-to-preserved-in-Some : goal.loop-to-preserved-in-Some
loop-to-preserved-in-Some g c =
    let row = g.N.Kind.Mark.row in
    let net = g.met.N.Network.sound c.args.net in
    let to = c.in-Some.to in
    let split = c.in-Some.ensures in
    let h = c.loop-to.invariant in
    let inside = event_in _ net.few _ _ _ _ _ _ _ _ _ h to _ split in
    let n_in : to < length c.loop-to.next = omega (arith, c.loop-to.auto.next, c.requires.next) in
    let s_in : to < length c.loop-to.sources = omega (arith, c.loop-to.auto.sources, c.requires.sources) in
    let sum = SumAlong-added row c.args.total _ (Some c.in-Some-follow.sum) (λ a l. c.requires.fits to a inside l) c.in-Some-follow.ensures in
    let best : option_map row c.index-next-to.result ≡ times row c.loop-to.next to = sym (cell_is row c.loop-to.next to _ n_in c.index-next-to.is) in
    followed_risen _ net.few _ _ _ _ _ _ _ _ _ h to _ split _ _ _ (row c.in-Some-follow.sum) sum (c.if-is_after.ensures ∙ ap (λ o. Rattle.solver.specs.Raising.beats (row c.in-Some-follow.sum) o) best) (times_set_same row c.loop-to.next to (Some c.in-Some-follow.sum) n_in) (λ v v_in d. times_set_other row c.loop-to.next to (Some c.in-Some-follow.sum) v d) (get_or-set_same c.loop-to.sources to c.args.from 0 s_in) (λ v v_in d. get_or-set_other c.loop-to.sources to v c.args.from 0 d) c.with_event-risen.ensures

pub loop-to-preserved : goal.loop-to-preserved
loop-to-preserved g c =
    let row = g.N.Kind.Mark.row in
    let net = g.met.N.Network.sound c.args.net in
    let to = c.in-Some.to in
    let split = c.in-Some.ensures in
    let h = c.loop-to.invariant in
    let inside = event_in _ net.few _ _ _ _ _ _ _ _ _ h to _ split in
    elim c.in_default.branch [
      | in_default-via-in-None-1 w ↦ followed_nothing _ net.few _ _ _ _ _ _ _ _ _ h to _ split (SumAlong-added row c.args.total _ None (λ a l. c.requires.fits to a inside l) (search rules))
      | in_default-via-in-Some-follow+else-is_after w ↦
          let n_in : to < length c.loop-to.next = omega (arith, c.loop-to.auto.next, c.requires.next) in
          let sum = SumAlong-added row c.args.total _ (Some w.in-Some-follow.sum) (λ a l. c.requires.fits to a inside l) w.in-Some-follow.ensures in
          let best : option_map row w.index-next-to.result ≡ times row c.loop-to.next to = sym (cell_is row c.loop-to.next to _ n_in w.index-next-to.is) in
          followed_unbeaten _ net.few _ _ _ _ _ _ _ _ _ h to _ split (row w.in-Some-follow.sum) sum (w.if-is_after.ensures ∙ ap (λ o. Rattle.solver.specs.Raising.beats (row w.in-Some-follow.sum) o) best)
    ]
