use Rattle.std.proofs.Common.{◌≤◌, Some, None, refl, arith}
use Rattle.rows.specs.Limits.{lag_limit, most_events}
use Rattle.schedules.specs.Tables.{events, place}
use Rattle.solver.proofs.Nets.{table_limited}
use Rattle.plan.proofs.Putting.{after_keeps, after_stands, put_back, sought_put}
use Rattle.plan.proofs.repairing.put_repaired.Goals as goal

pub repair-found-requires-clause-standing : goal.repair-found-requires-clause-standing
repair-found-requires-clause-standing g c =
    let m = events c.args.stages in
    let few : m ≤ most_events = omega (arith, c.requires.laid.most) in
    let put = c.put_lag.ensures few c.requires.to c.requires.from in
    after_stands m g.K.Mark.amount c.args.table.now c.args.to c.args.from c.args.lag _ c.requires.laid.full c.requires.to c.requires.from refl c.put_lag.new.table put c.args.standing.now c.note_lag.new.standing (omega (arith, few, c.requires.from, c.note_lag.array_long)) c.note_lag.ensures c.requires.standing

pub repair-found-requires-clause-leaves : goal.repair-found-requires-clause-leaves
repair-found-requires-clause-leaves g c =
    record { limit = lag_limit; limited = table_limited g.K.Mark.amount g.met.K.Mark.amount_limit (events c.args.stages) c.put_lag.new.table; leaves = c.requires.leaves }

pub repair-found-requires-clause-keeps : goal.repair-found-requires-clause-keeps
repair-found-requires-clause-keeps g c =
    let m = events c.args.stages in
    let few : m ≤ most_events = omega (arith, c.requires.laid.most) in
    let put = c.put_lag.ensures few c.requires.to c.requires.from in
    after_keeps m g.K.Mark.amount c.args.table.now c.args.to c.args.from c.args.lag _ c.requires.laid.full c.requires.to c.requires.from refl c.put_lag.new.table put g.K.Mark.WIDTH _ c.requires.keeps

pub returns-in_default-clause-ends : goal.returns-in_default-clause-ends
returns-in_default-clause-ends g c =
    let m = events c.args.stages in
    let few : m ≤ most_events = omega (arith, c.requires.laid.most) in
    let put = c.put_lag.ensures few c.requires.to c.requires.from in
    record {
      put = put;
      standing = after_stands m g.K.Mark.amount c.args.table.now c.args.to c.args.from c.args.lag _ c.requires.laid.full c.requires.to c.requires.from refl c.put_lag.new.table put c.args.standing.now c.note_lag.new.standing (omega (arith, few, c.requires.from, c.note_lag.array_long)) c.note_lag.ensures c.requires.standing;
      repaired = c.in_default.ensures.ends.0;
      loop_kept = c.in_default.ensures.ends.1;
    }

pub returns-clause-ends : goal.returns-clause-ends
returns-clause-ends g c =
    let m = events c.args.stages in
    let few : m ≤ most_events = omega (arith, c.requires.laid.most) in
    let put = c.put_lag.ensures few c.requires.to c.requires.from in
    let noted = c.note_lag.ensures in
    record {
      table_kept = put_back None c.args.table.now c.put_lag.new.table c.put_lag-2.new.table (place m c.args.to c.args.from) (Some c.args.lag) c.lag_at-stood.result put (c.put_lag-2.ensures few c.requires.to c.requires.from) (c.lag_at-stood.ensures few c.requires.to c.requires.from);
      words_kept = put_back 0 c.args.standing.now c.note_lag.new.standing _ c.args.from noted.word _ noted.put refl refl;
      shown = sought_put m g.K.Mark.amount c.args.table.now c.args.to c.args.from c.args.lag _ c.requires.laid.full c.requires.to c.requires.from refl g.K.Mark.WIDTH m c.put_lag.new.table c.args.loop_row.now c.repair-found.new.loop_row (Some c.in-Some.len) refl put c.in-Some.ensures.ends;
    }
