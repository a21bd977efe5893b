use Rattle.std.proofs.Common.{◌≡◌, ℕ, ◌<◌, length, None, arith, rules, get_or, length-set, ap, ◌∙◌}
use Rattle.std.specs.Option.{option_map}
use Rattle.std.proofs.lemmas.List.{get_or_read}
use Rattle.plan.proofs.Writing.{written_more, written_front}
use Rattle.plan.proofs.turning.turn_back.Goals as goal

pub offset_bounds-total-items-event : goal.offset_bounds-total-items-event
offset_bounds-total-items-event g c =
    let h : c.loop-event.event < length c.args.totals.now = omega (arith, c.requires.1, c.loop-event.invariant.0, c.loop-event-test.true) in
    search rules

pub loop-event-preserved : goal.loop-event-preserved
loop-event-preserved g c =
    let inside : c.loop-event.event < length c.loop-event.total-items = omega (arith, c.loop-event.invariant.0) in
    let read = get_or_read c.args.turned.now c.loop-event.event c.index-turned-event.result (omega (arith, c.requires.0, c.loop-event.invariant.0)) c.index-turned-event.is None in
    let value = c.inner_of.ensures ∙ ap (option_map (λ t. t.inner)) read in
    (rw length-set c.loop-event.invariant.0, written_more (λ e. option_map (λ t. t.inner) (get_or c.args.turned.now e None)) _ c.loop-event.event c.loop-event.total-items c.inner_of.result inside value c.loop-event.invariant.1)

pub returns : goal.returns
returns g c =
    let F = λ (e : ℕ). option_map (λ t. t.inner) (get_or c.args.turned.now e None) in
    let end : c.loop-event.event ≡ c.args.count = omega (arith, c.loop-event.invariant.0) in
    written_front F c.args.totals.now c.args.count c.loop-event.total-items c.loop-event.invariant.0 (λ e h. c.loop-event.invariant.1.0 e (omega arith))
