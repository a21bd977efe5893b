use Rattle.std.proofs.Common.{rules, get_or, None, ◌≡◌, ℕ, ◌<◌, refl, sym, arith}
use Rattle.std.specs.Option.{option_map}
use Rattle.plan.proofs.InAlgebra.{greatest_at}
use Rattle.schedules.specs.Answers.{GreatestTime, GreatestTimes}
use Rattle.schedules.specs.Tables.{times}
use Rattle.plan.specs.Passing.{lags_of}
use Rattle.plan.proofs.Copying.{copied_inner}
use Rattle.plan.proofs.Ends.{grants, refuses, at_call}
use Rattle.plan.proofs.Reversing.{latest_is_earliest_reversed}
use Rattle.plan.proofs.calls.latest.latest.Goals as goal

pub returns-in_err-greatest_times-clause-ends : goal.returns-in_err-greatest_times-clause-ends
returns-in_err-greatest_times-clause-ends g c =
    refuses c.in_ok-table.ensures.answer _ c.in_ok-table.ensures.none_missed c.args.loop_row.now c.greatest_times.new.loop_row _ _ _ c.from_residual-in_err-greatest_times.result refl c.from_residual-in_err-greatest_times.ensures.1 c.in_err-greatest_times.ensures.solved

pub greatest_times-requires-clause-room : goal.greatest_times-requires-clause-room
greatest_times-requires-clause-room g c =
    let l = c.in_ok-table.ensures.answer.long in
    search rules

pub turn_back-requires : goal.turn_back-requires
turn_back-requires g c =
    let l = c.in_ok-table.ensures.answer.long in
    (search rules, omega (arith, l))

pub returns-clause-ends : goal.returns-clause-ends
returns-clause-ends g c =
    let read = c.in_ok-table.ensures.answer in
    let w : (e : ℕ) → e < c.in_ok-table.table.count → get_or c.turn_back.new.totals e None ≡ option_map (λ t. t.inner) (get_or c.greatest_times.new.work.totals.now e None) = λ e l.
    let h = c.turn_back.ensures.0 e l in
    search rules in
    let greatest = copied_inner g.K.Mark.row (GreatestTime g.K.Mark.WIDTH c.in_ok-table.table.count (lags_of c.in_ok-table.table)) c.in_ok-table.table.count (λ t. t.inner) c.greatest_times.new.work.totals.now c.args.answer.now c.turn_back.new.totals (w, c.turn_back.ensures.1) c.in_ok-greatest_times.ensures.solved.answer in
    grants read _ c.in_ok-table.ensures.none_missed c.args.loop_row.now c.greatest_times.new.loop_row _ c.in_ok-greatest_times.ensures.solved (record {
      written = at_call read (λ m L. GreatestTimes g.K.Mark.WIDTH m L (times g.K.Mark.row c.turn_back.new.totals)) greatest;
      rest = rw (sym read.laid.count) c.turn_back.ensures.1;
    })

pub returns-clause-mirror : goal.returns-clause-mirror
returns-clause-mirror g c =
    let h = returns-clause-ends g c in
    latest_is_earliest_reversed g.K.Mark _ refl (λ total. refl) (λ lag. refl) g.met.K.Mark.amount_wide c.args.stages c.args.table.now c.args.answer.now c.turn_back.new.totals h.answer

pub returns-clause-algebra : goal.returns-clause-algebra
returns-clause-algebra g c =
    let ends = returns-clause-ends g c in
    greatest_at g.K.Mark g.met.K.Mark.amount_wide c.args.stages c.args.table.now g.met.K.Mark.wide_low ends.schedule c.args.answer.now c.turn_back.new.totals ends.answer
