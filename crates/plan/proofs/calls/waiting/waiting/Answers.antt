use Rattle.std.proofs.Common.{ℕ, ◌-◌, ◌*◌, ◌%◌, ◌^◌, List, Option, subst₂, rules, bit_and, arith}
use lib.Count.{ones}
use Rattle.schedules.specs.Tables.{lags}
use Rattle.plan.specs.Waiting.{Waiting}
use Rattle.plan.proofs.Answered.{answered}
use Rattle.plan.proofs.calls.waiting.waiting.Goals as goal

pub returns : goal.returns
returns g c =
    let table = c.in_ok-table.table in
    let read = c.in_ok-table.ensures.answer in
    let others = bit_and c.reach_by-reached.result (2 ^ 64 - 1 - 1 * 2 ^ c.args.event % 2 ^ 64) in
    record {
      none_missed = search rules;
      answer = subst₂ (λ (m : ℕ) (lags_now : List (Option g.row.K-Lag.Denot)). Waiting m (lags g.K.Mark.amount m lags_now) c.args.event (others, ones others)) read.laid.count read.lags
          (answered table.count (lags g.K.Mark.amount table.count table.lags.now) c.args.event c.reach_by-reached.result table.few (omega (arith, read.laid.count, c.in_ok-check_event.ensures.answer)) c.reach_by-reached.type_inv c.reach_by-reached.ensures);
    }
