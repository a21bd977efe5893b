use Rattle.std.proofs.Common.{◌≡◌, ℕ, ◌+◌, ◌*◌, ◌<◌, true, false, refl, subst, arith, rules}
use Rattle.std.proofs.lemmas.Bool.{not-true, not-false}
use Rattle.std.proofs.lemmas.Iterator.{YieldsList-from_range, cases_from_all}
use Rattle.plan.specs.Checks.{total_missed}
use Rattle.schedules.specs.Tables.{times}
use Rattle.plan.proofs.Totals.{unwrapped, totals_are}
use Rattle.plan.proofs.checks.are_given.Goals as goal

pub returns : goal.returns
returns g c few =
    let x = times g.K.Mark.row c.args.totals.now in
    let n = c.args.count in
    let at : ℕ → ℕ = λ k. c.args.first + c.args.step * k in
    totals_are x c.args.first c.args.step n c.all.result (cases_from_all _ _ c.all.result (λ k. k < n → total_missed (x (at k)) ≡ false) (λ k. k < n → total_missed (x (at k)) ≡ true) c.all.ensures.ran (YieldsList-from_range 0 n n refl (omega arith))
    (λ k q h. (search rules, λ l. subst (λ (i : ℕ). total_missed (x i) ≡ false) (unwrapped c.args.first c.args.step k n few l) (not-true _ (search rules))))
    (λ k q h l. subst (λ (i : ℕ). total_missed (x i) ≡ true) (unwrapped c.args.first c.args.step k n few l) (not-false _ (search rules))))
