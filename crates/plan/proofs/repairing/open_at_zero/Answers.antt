use Rattle.std.proofs.Common.{rules, ◌≡◌, Some, None, replicate, refl, ap, ◌∙◌}
use Rattle.std.specs.Option.{option_map}
use Rattle.schedules.specs.Tables.{places}
use Rattle.plan.proofs.FromZero.{zero_open}
use Rattle.plan.proofs.repairing.open_at_zero.Goals as goal

pub returns-clause-opened : goal.returns-clause-opened
returns-clause-opened g c =
    let table = c.fill.new.self in
    let emptied : table ≡ replicate (places c.args.stages) None = search rules in
    zero_open g.K.Mark c.args.stages table _ c.fill_totals.new.totals c.requires.laid.most emptied refl (λ v v_in. ap (option_map g.K.Mark.row) (c.fill_totals.ensures v v_in) ∙ ap Some c.zero.ensures)
