use Rattle.std.proofs.Common.{rules, ◌≡◌, ℕ, suc, ◌+◌, ◌*◌, ◌<◌, false, None, sym, ◌∙◌, subst, ap₂, arith}
use Rattle.std.specs.Option.{option_map}
use Rattle.plan.proofs.InAlgebra.{product_at}
use Rattle.schedules.specs.Plans.{Lags, Totals}
use Rattle.plan.specs.Checks.{totals_missed}
use Rattle.schedules.specs.Tables.{finish, lags, times}
use Rattle.schedules.specs.Starts.{Finished, Finishes}
use Rattle.schedules.specs.Folds.{StartsInside, finish_of}
use Rattle.plan.proofs.Filling.{filled}
use Rattle.plan.proofs.Passing.{starts_inside}
use Rattle.plan.proofs.FoldsAt.{finish_at}
use Rattle.plan.proofs.calls.finish.finish.Goals as goal

pub write_stages-requires : goal.write_stages-requires
write_stages-requires g c =
    let laid = c.in_ok-table.ensures.answer.laid in
    let table = c.in_ok-table.table in
    let given = c.in_ok-given.given in
    let x : Totals = times g.K.Mark.row given.totals.now in
    let same : given.count ≡ table.stages = c.in_ok-given.ensures.answer.1 ∙ sym c.in_ok-table.ensures.answer.stages in
    let long = c.in_ok-table.ensures.answer.long in
    let inside : StartsInside table.stages x = starts_inside table.stages x (subst (λ (i : ℕ). totals_missed x 1 2 i ≡ false) same given.all) in (
      laid.most,
      omega (arith, laid.count, long),
      λ k l.
          let most = laid.most in
          let to : 2 * k + 2 < table.count = omega (arith, laid.count) in
          search rules,
    )

pub returns-clause-ends : goal.returns-clause-ends
returns-clause-ends g c =
    let K = g.K.Mark in
    let laid = c.in_ok-table.ensures.answer.laid in
    let n = c.args.stages in
    let table = c.in_ok-table.table in
    let starts = c.in_ok-given.given.totals.now in
    let L : Lags = lags K.amount table.count table.lags.now in
    let x : Totals = times K.row starts in
    let stages : table.stages ≡ n = c.in_ok-table.ensures.answer.stages in
    let all = filled K.row (λ k o. o ≡ None) (λ k o. Finished n L x (finish k) o) _ n c.args.finishes.now c.write_stages.new.row c.write_stages.ensures (λ k r l p.
    let none : option_map K.row r.0 ≡ None = search rules in
    let is : option_map K.row r.1 ≡ finish_of table.stages L x (2 * k + 2) = search rules in
    let at : 2 * k + 2 ≡ finish (suc k) = omega arith in
    let same : finish_of table.stages L x (2 * k + 2) ≡ finish_of n L x (finish (suc k)) = ap₂ (λ (i v : ℕ). finish_of i L x v) stages at in
    (none, subst (Finished n L x (finish (suc k))) (sym (is ∙ same)) (finish_at K.WIDTH K.row K.amount g.met.K.Mark.row_wide g.met.K.Mark.amount_wide table.count n table.lags.now starts (finish (suc k))))) in
    let ends : Finishes n L x (times K.row c.write_stages.new.row) = record { opening = all.opening; starts = all.starts; finishes = all.finishes } in
    record {
      none_missed = search rules;
      answer = record {
        written = rw (sym c.in_ok-table.ensures.answer.lags, sym c.in_ok-given.ensures.answer.0, sym laid.count) ends;
        rest = c.write_stages.ensures.rest;
      };
    }

pub returns-clause-algebra : goal.returns-clause-algebra
returns-clause-algebra g c =
    let ends = returns-clause-ends g c in
    product_at g.K.Mark g.met.K.Mark.amount_wide c.args.stages c.args.table.now g.met.K.Mark.row_wide c.args.starts.now c.args.finishes.now c.write_stages.new.row ends.answer
