use Rattle.std.proofs.Common.{rules, sym, ◌∙◌, arith}
use Rattle.std.proofs.lemmas.List.{length-take-le}
use Rattle.schedules.specs.Tables.{times}
use Rattle.trials.proofs.Room.{near_leaves, near_none, near_some}
use Rattle.trials.proofs.settling.leave_room.Goals as goal
use Rattle.trials.proofs.settling.leave_room.Goals.{in_default-via-in-None-1, in_default-via-in-Some+else-not-is_given}

pub loop-total-preserved : goal.loop-total-preserved
loop-total-preserved g c = elim c.in_default.branch [
  | in_default-via-in-None-1 w ↦ near_none g.K.Mark.row c.args.count c.loop-total.total-index c.args.totals.now c.loop-total.invariant c.total-item.result c.loop-total-test.true c.requires.totals c.total-item.is (search rules)
  | in_default-via-in-Some+else-not-is_given w ↦ near_some g.K.Mark.row c.args.count c.loop-total.total-index c.args.totals.now c.loop-total.invariant c.total-item.result c.loop-total-test.true c.requires.totals c.total-item.is w.in-Some.total w.in-Some.is (sym w.is_given.ensures ∙ w.if-not-is_given.false)
]

pub returns : goal.returns
returns g c t =
    let all = length-take-le c.args.count c.args.totals.now c.requires.totals in
    near_leaves c.args.count c.requires.few (times g.K.Mark.row c.args.totals.now) (λ v r l e. c.loop-total.invariant v r (omega (arith, l, all, c.loop-total-test.false)) e)
