use Rattle.std.proofs.Common.{◌≡◌, get_or, None, rules, ◌<◌, sym, ap, ◌∙◌, subst, arith}
use Rattle.std.specs.Option.{option_map}
use Rattle.schedules.specs.Answers.{LeastTime, GreatestTime}
use Rattle.plan.specs.Passing.{lags_of}
use Rattle.plan.proofs.Copying.{inner_map}
use Rattle.plan.proofs.Ends.{grants, refuses, at_call}
use Rattle.plan.proofs.calls.spread.spread.Goals as goal

pub returns-in_err-least_times : goal.returns-in_err-least_times
returns-in_err-least_times g c =
    refuses c.in_ok-table.ensures.answer _ (search rules) c.args.loop_row.now c.least_times.new.loop_row _ (Unit {0}) _ c.from_residual-in_err-least_times.result tt c.from_residual-in_err-least_times.ensures.1 c.in_err-least_times.ensures.solved

pub settle_greatest-requires-clause-room : goal.settle_greatest-requires-clause-room
settle_greatest-requires-clause-room g c =
    let l = c.in_ok-table.ensures.answer.long in
    search rules

pub returns : goal.returns
returns g c =
    let read = c.in_ok-table.ensures.answer in
    let plan = c.in_ok-table.table in
    let K = g.K.Mark in
    let e = c.args.event in
    let inside : e < plan.count = omega (arith, read.laid.count, c.in_ok-check_event.ensures.answer) in
    let low : c.time_at.result ≡ get_or c.least_times.new.work.totals.now e None = search rules in
    let high : c.time_at-2.result ≡ get_or c.settle_greatest.new.work.totals.now e None = search rules in
    let least : LeastTime K.WIDTH plan.count (lags_of plan) e (option_map K.row c.time_at.result) = subst (LeastTime K.WIDTH plan.count (lags_of plan) e) (sym (ap (option_map K.row) low)) (c.in_ok-least_times.ensures.solved.answer e inside) in
    let turned = ap (option_map K.row) (c.inner_of.ensures ∙ ap (option_map (λ t. t.inner)) high) ∙ inner_map K.row (λ t. t.inner) _ in
    let greatest : GreatestTime K.WIDTH plan.count (lags_of plan) e (option_map K.row c.inner_of.result) = subst (GreatestTime K.WIDTH plan.count (lags_of plan) e) (sym turned) (c.settle_greatest.ensures.greatest e inside) in
    grants read _ (search rules) c.args.loop_row.now c.least_times.new.loop_row _ c.in_ok-least_times.ensures.solved (record {
      low = at_call read (λ m L. LeastTime K.WIDTH m L e (option_map K.row c.time_at.result)) least;
      high = at_call read (λ m L. GreatestTime K.WIDTH m L e (option_map K.row c.inner_of.result)) greatest;
    })
