use Rattle.std.proofs.Common.{◌≡◌, ◌≢◌, List, ℕ, None, ◌+◌, sym, ◌∙◌, subst, arith}
use Rattle.std.specs.Option.{option_map}
use Rattle.schedules.specs.Tables.{lags}
use Rattle.trials.proofs.Noting.{FromNoted, from_more, from_same, stands, stands_none}
use Rattle.trials.proofs.settling.note_from.Goals as goal
use Rattle.trials.proofs.settling.note_from.Goals.{then-is_some, else-is_some}

pub loop-to-preserved : goal.loop-to-preserved
loop-to-preserved g c =
    let net = c.args.net.now in
    let L = lags g.K.Mark.amount net.count net.places.now in
    let kept = λ (ws : List ℕ). FromNoted L c.args.from (c.loop-to.to + 1) c.args.standing.now ws in
    elim c.if-is_some.branch [
      | then-is_some w ↦ subst kept (sym w.standing-is) (from_more L c.args.from c.loop-to.to c.args.standing.now c.loop-to.standing c.loop-to.invariant _ (omega (arith, net.few, c.requires.from)) w.note_lag.ensures (subst (λ o. option_map g.K.Mark.amount o ≢ None) c.lag.ensures (stands g.K.Mark.amount c.lag.result (sym c.is_some.ensures ∙ w.if-is_some.true))))
      | else-is_some w ↦ subst kept (sym w.standing-is) (from_same L c.args.from c.loop-to.to c.args.standing.now c.loop-to.standing c.loop-to.invariant (subst (λ o. option_map g.K.Mark.amount o ≡ None) c.lag.ensures (stands_none g.K.Mark.amount c.lag.result (sym c.is_some.ensures ∙ w.if-is_some.false))))
    ]
