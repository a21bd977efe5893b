use Rattle.std.proofs.Common.{ℕ, List, [], ◌∷◌, length, set, Some, None, refl, ap, ◌∙◌, inl, inr, arith, rules}
use Rattle.std.proofs.lemmas.Result.{err_from_is_err_and}
use Rattle.schedules.specs.Plans.{with_lag}
use Rattle.schedules.specs.Tables.{events, place, lags}
use Rattle.plan.proofs.SetPassing.{events_inside, set_passes, set_stops}
use Rattle.plan.proofs.Putting.{sought_put, put_back}
use Rattle.plan.proofs.Refusing.{loop_refuses}
use Rattle.plan.proofs.calls.set.set.Goals as goal

pub returns-in_err-lag : goal.returns-in_err-lag
returns-in_err-lag g c =
    let K = g.K.Mark in
    let p = err_from_is_err_and c.from_residual-in_err-lag.result c.from_residual-in_err-lag.ensures.1 in
    let made = c.in_err-lag.ensures in
    let rows : List ℕ = length c.args.totals.now ∷ length c.args.next.now ∷ length c.args.loop_row.now ∷ [] in
    let stops = set_stops K.WIDTH c.args.stages (length c.args.table.now) rows c.args.to c.args.from c.args.parts.now (search rules) (search rules) c.in_err-lag.field-0.0 made.1 made.0 in
    rw (p.1, p.2) (inl (record { first = stops; kept = refl; loop_kept = refl }))

pub returns-in-None : goal.returns-in-None
returns-in-None g c =
    let K = g.K.Mark in
    let m = c.in_ok-count.count in
    let laid = c.in_ok-count.ensures.answer.laid in
    let made = c.in_ok-lag.ensures in
    let at = events_inside c.args.stages (length c.args.table.now) m c.args.to c.args.from laid (omega (arith, c.max.ensures, c.in_ok-check_event.ensures.answer)) in
    let put = c.put_lag.ensures at.0 at.1 at.2 in
    let rows : List ℕ = length c.args.totals.now ∷ length c.args.next.now ∷ length c.args.loop_row.now ∷ [] in
    let passes = set_passes K.WIDTH c.args.stages (length c.args.table.now) rows c.args.to c.args.from c.args.parts.now (search rules) (search rules) made.0 in
    let has = sought_put m K.amount c.args.table.now c.args.to c.args.from c.in_ok-lag.lag c.args.parts.now laid.full at.1 at.2 made.1 K.WIDTH (events c.args.stages) c.put_lag.new.table c.args.loop_row.now c.contradiction-found.new.loop_row None laid.count put c.in-None.ensures.sought in
    record {
      none_missed = passes;
      schedule = has.0;
      answer = record {
        lag = c.in_ok-lag.lag;
        meaning = made.1;
        put = put ∙ ap (λ (k : ℕ). set c.args.table.now (place k c.args.to c.args.from) (Some c.in_ok-lag.lag)) laid.count;
      };
      loop_kept = has.1;
    }

pub returns-in-Some : goal.returns-in-Some
returns-in-Some g c =
    let K = g.K.Mark in
    let m = c.in_ok-count.count in
    let laid = c.in_ok-count.ensures.answer.laid in
    let made = c.in_ok-lag.ensures in
    let at = events_inside c.args.stages (length c.args.table.now) m c.args.to c.args.from laid (omega (arith, c.max.ensures, c.in_ok-check_event.ensures.answer)) in
    let put = c.put_lag.ensures at.0 at.1 at.2 in
    let rows : List ℕ = length c.args.totals.now ∷ length c.args.next.now ∷ length c.args.loop_row.now ∷ [] in
    let passes = set_passes K.WIDTH c.args.stages (length c.args.table.now) rows c.args.to c.args.from c.args.parts.now (search rules) (search rules) made.0 in
    let shown = sought_put m K.amount c.args.table.now c.args.to c.args.from c.in_ok-lag.lag c.args.parts.now laid.full at.1 at.2 made.1 K.WIDTH (events c.args.stages) c.put_lag.new.table c.args.loop_row.now c.contradiction-found.new.loop_row (Some c.in-Some.len) laid.count put c.in-Some.ensures.sought in
    let L = with_lag (lags K.amount (events c.args.stages) c.args.table.now) c.args.to c.args.from c.args.parts.now in
    let back = put_back None c.args.table.now c.put_lag.new.table c.put_lag-in-Some.new.table (place m c.args.to c.args.from) (Some c.in_ok-lag.lag) c.lag_at-stood.result put (c.put_lag-in-Some.ensures at.0 at.1 at.2) (c.lag_at-stood.ensures at.0 at.1 at.2) in
    inr (record {
      none_missed = passes;
      no_schedule = loop_refuses K.WIDTH (events c.args.stages) L c.args.loop_row.now c.contradiction-found.new.loop_row c.in-Some.len shown;
      len = c.in-Some.len;
      fault_is = refl;
      shown = shown;
      kept = back;
    })
