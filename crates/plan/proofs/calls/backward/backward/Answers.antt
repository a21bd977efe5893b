use Rattle.std.proofs.Common.{rules, ◌≡◌, ℕ, suc, ◌+◌, ◌*◌, List, false, None, Option, sym, ◌∙◌, subst, subst₂, ap₂, arith}
use Rattle.std.specs.Option.{option_map}
use Rattle.plan.proofs.InAlgebra.{solution_at}
use Rattle.schedules.specs.Plans.{Lags, Totals}
use Rattle.plan.specs.Checks.{totals_missed}
use Rattle.schedules.specs.Tables.{start, lags, times}
use Rattle.schedules.specs.Starts.{Allowed, Backward}
use Rattle.schedules.specs.Folds.{start_of}
use Rattle.schedules.proofs.Backwards.{backward}
use Rattle.plan.proofs.Filling.{filled}
use Rattle.plan.proofs.Passing.{finishes_given}
use Rattle.plan.proofs.FoldsAt.{start_at, wide_lags, wide_times}
use Rattle.plan.proofs.calls.backward.backward.Goals as goal

pub returns-clause-ends : goal.returns-clause-ends
returns-clause-ends g c =
    let K = g.K.Mark in
    let laid = c.in_ok-table.ensures.answer.laid in
    let n = c.args.stages in
    let table = c.in_ok-table.table in
    let due = c.in_ok-due.due in
    let d : Totals = times K.row due.totals.now in
    let L : Lags = lags K.amount table.count table.lags.now in
    let stages : table.stages ≡ n = c.in_ok-table.ensures.answer.stages in
    let all = filled K.row (λ k o. Allowed n L d (start k) o) (λ k o. o ≡ None) _ n c.args.starts.now c.write_stages.new.row c.write_stages.ensures (λ k r l p.
    let is : option_map K.row r.0 ≡ start_of table.stages L d (2 * k + 1) = search rules in
    let none : option_map K.row r.1 ≡ None = search rules in
    let at : 2 * k + 1 ≡ start (suc k) = omega arith in
    let same : start_of table.stages L d (2 * k + 1) ≡ start_of n L d (start (suc k)) = ap₂ (λ (i u : ℕ). start_of i L d u) stages at in
    (subst (Allowed n L d (start (suc k))) (sym (is ∙ same)) (start_at K.WIDTH K.row K.amount g.met.K.Mark.row_wide g.met.K.Mark.amount_wide table.count n table.lags.now due.totals.now (start (suc k))), none)) in
    let passed : totals_missed d 2 2 n ≡ false = subst (λ (i : ℕ). totals_missed d 2 2 i ≡ false) c.in_ok-due.ensures.answer.1 due.all in
    let ends : Backward K.WIDTH n L d (times K.row c.write_stages.new.row) = backward K.WIDTH n L d (times K.row c.write_stages.new.row)
    (wide_times K.WIDTH K.row K.amount g.met.K.Mark.row_wide g.met.K.Mark.amount_wide table.count n table.lags.now due.totals.now) (wide_lags K.WIDTH K.row K.amount g.met.K.Mark.row_wide g.met.K.Mark.amount_wide table.count n table.lags.now due.totals.now)
    (λ j low high. let h = finishes_given n d passed j low high in (h.0, h.1)) all.starts all.opening all.finishes in
    record {
      none_missed = search rules;
      answer = record {
        written = rw (sym c.in_ok-table.ensures.answer.lags, sym c.in_ok-due.ensures.answer.0, sym laid.count) ends;
        rest = c.write_stages.ensures.rest;
      };
    }

pub returns-clause-algebra : goal.returns-clause-algebra
returns-clause-algebra g c =
    let found = c.in_ok-due.ensures.answer in
    let passed = subst₂ (λ (t : List (Option _)) (i : ℕ). totals_missed (times g.K.Mark.row t) 2 2 i ≡ false) found.0 found.1 c.in_ok-due.due.all in
    let ends = returns-clause-ends g c in
    solution_at g.K.Mark g.met.K.Mark.amount_wide c.args.stages c.args.table.now g.met.K.Mark.row_wide c.args.due.now c.args.starts.now c.write_stages.new.row passed ends.answer
