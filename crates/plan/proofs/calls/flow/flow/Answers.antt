use Rattle.std.proofs.Common.{List, [], ◌∷◌, ℕ, length, refl}
use Rattle.plan.proofs.FlowAnswer.{some_stages}
use Rattle.plan.proofs.InAlgebra.{mean_at, schedulable_at}
use Rattle.plan.proofs.calls.flow.flow.Goals as goal

pub returns-clause-lags : goal.returns-clause-lags
returns-clause-lags c =
    schedulable_at _ (λ a. refl) c.args.stages c.args.table.now refl _ c.args.answer.now c.flow_counted.new.answer c.in_ok-found.ensures.ends.answer

pub returns-clause-algebra : goal.returns-clause-algebra
returns-clause-algebra c =
    let ends = c.in_ok-found.ensures.ends in
    let rows : List ℕ = length c.args.answer.now ∷ length c.args.totals.now ∷ length c.args.next.now ∷ length c.args.turned.now ∷ length c.args.turned_next.now ∷ length c.args.loop_row.now ∷ [] in
    mean_at _ (λ a. refl) c.args.stages c.args.table.now refl _ c.args.answer.now c.flow_counted.new.answer ends.answer (some_stages c.args.stages (length c.args.table.now) rows ends.none_missed)
