use Rattle.std.proofs.Common.{rules, ◌≡◌, ℕ, ◌+◌, ◌*◌, ℤ, ◌-ℤ◌, nat_abs, sym, ap, ◌∙◌, ap₂, arith, w64, SFits}
use Rattle.std.proofs.lemmas.Int.{to_z-of_z}
use Rattle.schedules.specs.Tables.{finish}
use Rattle.schedules.specs.Folds.{finish_of}
use Rattle.schedules.specs.Minutes.{minute}
use Rattle.plan.specs.Passing.{lags_of}
use Rattle.plan.specs.Timed.{due_of, best_of}
use Rattle.plan.proofs.Readying.{inside}
use Rattle.plan.proofs.calls.closest.timely.Timely.miss.Goals as goal

pub latest_arrival-end-requires : goal.latest_arrival-end-requires
latest_arrival-end-requires g c =
    let laws = g.met.K.Mark in
    let plan = c.args.self.now in
    (omega (arith, c.requires, plan.table.laid), inside laws.row_wide laws.amount_wide laws.amount_limit plan)

pub returns : goal.returns
returns g c =
    let plan = c.args.self.now in
    let fits : SFits w64 c.minute_of.result = search rules in
    let fits_end : SFits w64 c.minute_of-2.result = search rules in
    let gap : c.abs_diff.result ≡ nat_abs (c.minute_of.result -ℤ c.minute_of-2.result) = simp to_z-of_z at c.abs_diff.ensures in
    let due_at : 2 + 2 * c.args.j ≡ finish (c.args.j + 1) = omega arith in
    let end_at : 2 * c.args.j + 2 ≡ finish (c.args.j + 1) = omega arith in
    let due = c.minute_of.ensures ∙ ap minute (sym c.nth.ensures) ∙ ap (λ (i : ℕ). minute (due_of plan i)) due_at in
    let end = c.minute_of-2.ensures ∙ ap minute c.latest_arrival-end.ensures ∙ ap (λ (i : ℕ). minute (finish_of plan.table.stages (lags_of plan.table) (best_of plan) i)) end_at in
    gap ∙ ap₂ (λ (p q : ℤ). nat_abs (p -ℤ q)) due end
