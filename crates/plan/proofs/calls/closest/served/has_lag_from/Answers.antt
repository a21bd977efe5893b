use Rattle.std.proofs.Common.{rules, ◌≡◌, ℕ, suc, ◌+◌, ◌*◌, ◌<◌, Bool, true, false, is_some, get_or, None, refl, ap, ◌∙◌, arith}
use Rattle.std.proofs.lemmas.Iterator.{YieldsList-from_range, cases_from_any}
use Rattle.schedules.specs.Plans.{Lags}
use Rattle.schedules.specs.Tables.{finish, lags, place}
use Rattle.plan.proofs.Serving.{any_is}
use Rattle.schedules.proofs.Serving.{some_mapped}
use Rattle.plan.proofs.calls.closest.served.has_lag_from.Goals as goal

pub returns : goal.returns
returns g c =
    let n = c.args.table.now.stages in
    let table = c.args.table.now in
    let L : Lags = lags g.K.Mark.amount table.count table.lags.now in
    let p : ℕ → Bool = λ j. is_some (L (finish j) c.args.from) in
    let test : (j : ℕ) → p (suc j) ≡ is_some (get_or table.lags.now (place table.count (2 * j + 2) c.args.from) None) = λ j.
    let at : finish (suc j) ≡ 2 * j + 2 = omega arith in
    ap (λ (i : ℕ). is_some (L i c.args.from)) at ∙ some_mapped g.K.Mark.amount (get_or table.lags.now (place table.count (2 * j + 2) c.args.from) None) in
    any_is n p c.any.result (cases_from_any _ _ c.any.result (λ k. k < n → p (suc k) ≡ true) (λ k. k < n → p (suc k) ≡ false) c.any.ensures.ran (YieldsList-from_range 0 n n refl (omega arith))
    (λ k q h l. let to : 2 * k + 2 < table.count = omega (arith, table.laid) in test k ∙ search rules)
    (λ k q h. (search rules, λ l. let to : 2 * k + 2 < table.count = omega (arith, table.laid) in test k ∙ search rules)))
