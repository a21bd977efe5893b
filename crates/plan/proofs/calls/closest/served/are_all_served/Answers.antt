use Rattle.std.proofs.Common.{rules, ◌≡◌, ℕ, suc, ◌+◌, ◌<◌, true, false, sym, refl, ap, ◌∙◌, add-one, arith}
use Rattle.std.proofs.lemmas.Iterator.{YieldsList-from_range, cases_from_all}
use Rattle.schedules.specs.Plans.{Lags}
use Rattle.schedules.specs.Tables.{lags}
use Rattle.schedules.specs.Served.{served}
use Rattle.plan.proofs.Serving.{all_is}
use Rattle.plan.proofs.calls.closest.served.are_all_served.Goals as goal

pub returns : goal.returns
returns g c =
    let table = c.args.table.now in
    let n = table.stages in
    let L : Lags = lags g.K.Mark.amount table.count table.lags.now in
    let next : (k : ℕ) → served n L (suc k) ≡ served n L (k + 1) = λ k. ap (served n L) (sym (add-one k)) in
    all_is n (served n L) c.all.result (cases_from_all _ _ c.all.result (λ k. k < n → served n L (suc k) ≡ true) (λ k. k < n → served n L (suc k) ≡ false) c.all.ensures.ran (YieldsList-from_range 0 n n refl (omega arith))
    (λ k q h. (search rules, λ l. next k ∙ search rules)) (λ k q h l. next k ∙ search rules))
