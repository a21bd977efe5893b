use Rattle.std.proofs.Common.{rules, get_or, None, ◌≡◌, ℕ, ◌<◌, refl, sym, arith}
use Rattle.plan.proofs.InAlgebra.{least_at}
use Rattle.schedules.specs.Answers.{LeastTime, LeastTimes}
use Rattle.schedules.specs.Tables.{times}
use Rattle.plan.specs.Passing.{lags_of}
use Rattle.plan.proofs.Copying.{copied}
use Rattle.plan.proofs.Ends.{grants, refuses, at_call}
use Rattle.plan.proofs.calls.earliest.earliest.Goals as goal

pub returns-in_err-least_times-clause-ends : goal.returns-in_err-least_times-clause-ends
returns-in_err-least_times-clause-ends g c =
    refuses c.in_ok-table.ensures.answer _ c.in_ok-table.ensures.none_missed c.args.loop_row.now c.least_times.new.loop_row _ _ _ c.from_residual-in_err-least_times.result refl c.from_residual-in_err-least_times.ensures.1 c.in_err-least_times.ensures.solved

pub copy_totals-requires : goal.copy_totals-requires
copy_totals-requires g c =
    let l = c.in_ok-table.ensures.answer.long in
    record { from = search rules; to = omega (arith, l) }

pub returns-clause-ends : goal.returns-clause-ends
returns-clause-ends g c =
    let read = c.in_ok-table.ensures.answer in
    let w : (e : ℕ) → e < c.in_ok-table.table.count → get_or c.copy_totals.new.to e None ≡ get_or c.least_times.new.work.totals.now e None = λ e l.
    let h = c.copy_totals.ensures.0 e l in
    search rules in
    let least = copied g.K.Mark.row (LeastTime g.K.Mark.WIDTH c.in_ok-table.table.count (lags_of c.in_ok-table.table)) c.in_ok-table.table.count c.least_times.new.work.totals.now c.args.answer.now c.copy_totals.new.to (w, c.copy_totals.ensures.1) c.in_ok-least_times.ensures.solved.answer in
    grants read _ c.in_ok-table.ensures.none_missed c.args.loop_row.now c.least_times.new.loop_row _ c.in_ok-least_times.ensures.solved (record {
      written = at_call read (λ m L. LeastTimes g.K.Mark.WIDTH m L (times g.K.Mark.row c.copy_totals.new.to)) least;
      rest = rw (sym read.laid.count) c.copy_totals.ensures.1;
    })

pub returns-clause-algebra : goal.returns-clause-algebra
returns-clause-algebra g c =
    let ends = returns-clause-ends g c in
    least_at g.K.Mark g.met.K.Mark.amount_wide c.args.stages c.args.table.now g.met.K.Mark.wide_low ends.schedule c.args.answer.now c.copy_totals.new.to ends.answer
