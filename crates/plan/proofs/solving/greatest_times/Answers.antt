use Rattle.std.proofs.Common.{◌≤◌, refl, inr, arith}
use Rattle.schedules.proofs.Mirrored.{mirrored_schedulable}
use Rattle.schedules.proofs.Meanings.{lags_wide}
use Rattle.plan.specs.Passing.{lags_of}
use Rattle.plan.proofs.Mirroring.{greatest_from}
use Rattle.plan.proofs.Refusing.{loop_refuses}
use Rattle.plan.proofs.TurningLoops.{loop_some, shown_turned}
use Rattle.plan.proofs.solving.greatest_times.Goals as goal

pub returns-in-None-clause-solved : goal.returns-in-None-clause-solved
returns-in-None-clause-solved g c =
    let table = c.args.table.now in
    let wide = lags_wide g.K.Mark.WIDTH g.K.Mark.amount g.met.K.Mark.amount_wide table.count table.count table.lags.now in
    record {
      none_missed = refl;
      schedule = (mirrored_schedulable _ _ _ wide).1 c.in-None.ensures.sought.0;
      answer = greatest_from _ _ _ wide g.K.Mark.row c.find_least.new.work.totals.now c.in-None.ensures.sought.1;
      loop_kept = c.in-None.ensures.sought.2;
    }

pub turn_loop-requires : goal.turn_loop-requires
turn_loop-requires g c =
    let table = c.args.table.now in
    let shown = c.in-Some.ensures.sought in
    let short : c.in-Some.len ≤ table.count = shown.0 in
    (loop_some g.K.Mark.WIDTH table.count (lags_of table) c.args.loop_row.now c.find_least.new.loop_row c.args.loop_row.now c.in-Some.len shown, omega (arith, short, c.find_least.auto.loop_row, c.requires.places))

pub returns-in-Some-clause-solved : goal.returns-in-Some-clause-solved
returns-in-Some-clause-solved g c =
    let table = c.args.table.now in
    let shown = shown_turned g.K.Mark.WIDTH table.count (lags_of table) c.args.loop_row.now c.find_least.new.loop_row c.turn_loop.new.loop_row c.in-Some.len c.in-Some.ensures.sought c.turn_loop.ensures in
    inr (record {
      none_missed = refl;
      no_schedule = loop_refuses g.K.Mark.WIDTH table.count (lags_of table) c.args.loop_row.now c.turn_loop.new.loop_row c.in-Some.len shown;
      len = c.in-Some.len;
      fault_is = refl;
      shown = shown;
      kept = tt;
    })
