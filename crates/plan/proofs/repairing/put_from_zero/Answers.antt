use Rattle.std.proofs.Common.{sym, ap, ◌∙◌}
use Rattle.std.specs.Option.{option_map}
use Rattle.schedules.proofs.Optional.{some_none}
use Rattle.plan.proofs.FromZero.{zero_leaves, zero_put, zero_room}
use Rattle.plan.proofs.repairing.put_from_zero.Goals as goal

pub put_repaired-requires-clause-leaves : goal.put_repaired-requires-clause-leaves
put_repaired-requires-clause-leaves g c =
    zero_room g.K.Mark c.args.stages g.met.K.Mark.amount_wide c.args.table.now c.args.standing.now c.args.work.now.totals.now c.requires.least g.met.K.Mark.amount_limit c.requires.laid.most

pub returns-clause-least : goal.returns-clause-least
returns-clause-least g c =
    let stood = ap (option_map g.K.Mark.amount) c.requires.empty in
    zero_put g.K.Mark c.args.stages g.met.K.Mark.amount_wide c.args.table.now c.args.standing.now c.args.work.now.totals.now c.requires.least c.args.to c.args.from c.args.lag c.requires.laid.full c.requires.to c.requires.from (λ l e. absurd (some_none (sym e ∙ stood))) c.put_repaired.new.table c.put_repaired.new.standing c.put_repaired.new.work.totals.now c.args.loop_row.now c.put_repaired.new.loop_row c.put_repaired.result c.put_repaired.ensures.ends

pub returns-clause-leaves : goal.returns-clause-leaves
returns-clause-leaves g c =
    zero_leaves g.K.Mark c.args.stages g.met.K.Mark.amount_wide g.met.K.Mark.amount_limit c.requires.laid.most c.put_repaired.new.table c.put_repaired.new.standing c.put_repaired.new.work.totals.now c.put_repaired.result (returns-clause-least g c)
