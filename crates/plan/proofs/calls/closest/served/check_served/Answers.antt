use Rattle.std.proofs.Common.{◌≡◌, false, not, None, sym, ◌∙◌}
use Rattle.std.proofs.lemmas.Bool.{cond-false, not-false, not-true}
use Rattle.schedules.specs.Plans.{Lags}
use Rattle.schedules.specs.Tables.{lags}
use Rattle.schedules.specs.Served.{served, unserved}
use Rattle.schedules.proofs.Serving.{any_none}
use Rattle.plan.proofs.calls.closest.served.check_served.Goals as goal

pub returns-then-are_all_served : goal.returns-then-are_all_served
returns-then-are_all_served g c =
    let n = c.args.table.now.stages in
    let L : Lags = lags g.K.Mark.amount c.args.table.now.count c.args.table.now.lags.now in
    let none : unserved n L ≡ false = not-true (unserved n L) (sym c.are_all_served.ensures ∙ c.if-are_all_served.true) in
    record {
      none_missed = cond-false (unserved n L) _ None none;
      answer = λ k low high. not-false (served n L k) (any_none (λ i. not (served n L i)) n k low high none);
    }
