use Rattle.std.proofs.Common.{◌<◌, length, Some, sym, ap, ◌∙◌, arith}
use Rattle.std.specs.Option.{option_map}
use Rattle.rows.specs.MaxPlus.{added}
use Rattle.solver.specs.Raising.{beats}
use Rattle.solver.proofs.Cells.{cell_is, SumAlong-added}
use Rattle.solver.proofs.Repairing.{unbeaten_keeps}
use Rattle.solver.proofs.repair.keeps_lag.Goals as goal

pub returns : goal.returns
returns g c =
    let row = g.N.Kind.Mark.row in
    let f_in : c.args.from < length c.args.totals.now = omega (arith, c.requires.from, c.requires.totals) in
    let t_in : c.args.to < length c.args.totals.now = omega (arith, c.requires.to, c.requires.totals) in
    let known = cell_is row c.args.totals.now c.args.from _ f_in c.index-totals-from.is ∙ ap (option_map row) c.in-Some.is in
    let sum = SumAlong-added row c.in-Some.total _ (Some c.in-Some-follow.sum) (λ a l. c.requires.fits c.args.to c.args.from (row c.in-Some.total) a c.requires.to c.requires.from known l) c.in-Some-follow.ensures in
    unbeaten_keeps _ _ (row c.in-Some-follow.sum) c.is_after.result (ap (λ o. added o (g.N.Network.weight c.args.net.now c.args.to c.args.from)) known ∙ sum) (c.is_after.ensures ∙ ap (beats (row c.in-Some-follow.sum)) (sym (cell_is row c.args.totals.now c.args.to _ t_in c.index-totals-to.is)))
