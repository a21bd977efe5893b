use Rattle.std.proofs.Common.{rules, ◌≡◌, ℕ, suc, ◌+◌, ◌*◌, ◌<◌, Bool, true, false, is_some, get_or, None, refl, ap, ◌∙◌, arith}
use Rattle.std.proofs.lemmas.Iterator.{YieldsList-from_range, cases_from_any}
use Rattle.schedules.specs.Plans.{Lags}
use Rattle.schedules.specs.Tables.{start, lags, place}
use Rattle.plan.proofs.Serving.{any_is}
use Rattle.schedules.proofs.Serving.{some_mapped}
use Rattle.plan.proofs.calls.closest.served.has_lag_into.Goals as goal

pub returns : goal.returns
returns g c =
    let n = c.args.table.now.stages in
    let table = c.args.table.now in
    let L : Lags = lags g.K.Mark.amount table.count table.lags.now in
    let p : ℕ → Bool = λ k. is_some (L c.args.to (start k)) in
    let test : (k : ℕ) → p (suc k) ≡ is_some (get_or table.lags.now (place table.count c.args.to (2 * k + 1)) None) = λ k.
    let at : start (suc k) ≡ 2 * k + 1 = omega arith in
    ap (λ (i : ℕ). is_some (L c.args.to i)) at ∙ some_mapped g.K.Mark.amount (get_or table.lags.now (place table.count c.args.to (2 * k + 1)) None) in
    any_is n p c.any.result (cases_from_any _ _ c.any.result (λ k. k < n → p (suc k) ≡ true) (λ k. k < n → p (suc k) ≡ false) c.any.ensures.ran (YieldsList-from_range 0 n n refl (omega arith))
    (λ k q h l. let from : 2 * k + 1 < table.count = omega (arith, table.laid) in test k ∙ search rules)
    (λ k q h. (search rules, λ l. let from : 2 * k + 1 < table.count = omega (arith, table.laid) in test k ∙ search rules)))
