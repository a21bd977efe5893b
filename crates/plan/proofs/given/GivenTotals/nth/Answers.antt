use Rattle.std.proofs.Common.{sym, ap, ◌∙◌}
use Rattle.std.specs.Option.{option_map}
use Rattle.schedules.proofs.Optional.{some_none}
use Rattle.schedules.specs.Tables.{times}
use Rattle.plan.proofs.Passed.{all_given}
use Rattle.plan.proofs.given.GivenTotals.nth.Goals as goal

pub unreachable-requires : goal.unreachable-requires
unreachable-requires g c =
    let x = times g.K.Mark.row c.args.self.now.totals.now in
    let given = all_given x g.row.FIRST g.row.STEP c.args.self.now.count c.args.self.now.all c.args.k c.requires in
    some_none (sym given.1 ∙ ap (option_map g.K.Mark.row) (sym c.time_at.ensures ∙ c.in-None.is))
