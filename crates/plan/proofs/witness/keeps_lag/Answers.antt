use Rattle.std.proofs.Common.{◌≡◌, true, not, ap, ◌∙◌, sym}
use Rattle.std.specs.Ordering.{is_lt}
use Rattle.plan.proofs.Kept.{kept_by}
use Rattle.plan.proofs.witness.keeps_lag.Goals as goal

pub returns-in-Some-add : goal.returns-in-Some-add
returns-in-Some-add g c e =
    let K = g.K.Mark in
    let below : not (is_lt c.order.result) ≡ true = sym (ap not c.is_lt.ensures) ∙ e in
    rw (c.in-Some.is, c.in-Some-time.is, c.in-Some-begins.is) (kept_by c.order.result (K.row c.in-Some-time.time) (K.row c.in-Some-add.least) (K.row c.in-Some-begins.begins) (K.amount c.in-Some.lag) c.order.ensures below c.in-Some-add.ensures.1)
