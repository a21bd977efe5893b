use Rattle.std.proofs.Common.{◌<◌, length, None, ap, ◌∙◌, arith, rules}
use Rattle.std.specs.Option.{option_map}
use Rattle.solver.proofs.Cells.{cell_is, times_sized}
use Rattle.solver.proofs.Raising.{raising_none, raised_past, raised_more, raised_all}
use Rattle.solver.proofs.rounds.raise_all.Goals as goal

pub loop-from-init : goal.loop-from-init
loop-from-init g c = raising_none _ _ _ _ _ _ c.requires.asking.0 c.requires.asking.1 c.requires.step

pub follow_lags-risen-requires-clause-led_to : goal.follow_lags-risen-requires-clause-led_to
follow_lags-risen-requires-clause-led_to g c =
    c.requires.standing c.in-Some.from (c.loop-from.invariant.left c.in-Some.from c.in-Some.ensures.inside c.in-Some.ensures.has)

pub follow_lags-risen-requires-clause-fits : goal.follow_lags-risen-requires-clause-fits
follow_lags-risen-requires-clause-fits g c v a v_in l =
    let row = g.N.Kind.Mark.row in
    let u_in = c.loop-from.invariant.left c.in-Some.from c.in-Some.ensures.inside c.in-Some.ensures.has in
    let n_in : c.in-Some.from < length c.args.totals.now = omega (arith, u_in, c.requires.totals) in
    c.requires.fits v c.in-Some.from (row c.in-Some-known.total) a v_in u_in (cell_is row c.args.totals.now c.in-Some.from _ n_in c.index-totals-from.is ∙ ap (option_map row) c.in-Some-known.is) l

pub loop-from-preserved-in-Some-known : goal.loop-from-preserved-in-Some-known
loop-from-preserved-in-Some-known g c =
    let row = g.N.Kind.Mark.row in
    let net = g.met.N.Network.sound c.args.net.now in
    let sized = times_sized g.N.Kind.Mark.WIDTH (g.N.Network.size c.args.net.now) row g.met.N.Kind.Mark.row_wide in
    let u_in = c.loop-from.invariant.left c.in-Some.from c.in-Some.ensures.inside c.in-Some.ensures.has in
    let n_in : c.in-Some.from < length c.args.totals.now = omega (arith, u_in, c.requires.totals) in
    raised_more g.N.Kind.Mark.WIDTH _ net.few _ net.wide _ (sized c.args.totals.now) _ _ _ _ (sized c.loop-from.next) c.loop-from.invariant c.in-Some.from _ c.in-Some.ensures (row c.in-Some-known.total) (cell_is row c.args.totals.now c.in-Some.from _ n_in c.index-totals-from.is ∙ ap (option_map row) c.in-Some-known.is) _ _ c.follow_lags-risen.result _ (sized c.follow_lags-risen.new.next) c.follow_lags-risen.ensures c.either-changed.ensures

pub loop-from-preserved : goal.loop-from-preserved
loop-from-preserved g c =
    let row = g.N.Kind.Mark.row in
    let net = g.met.N.Network.sound c.args.net.now in
    let sized = times_sized g.N.Kind.Mark.WIDTH (g.N.Network.size c.args.net.now) row g.met.N.Kind.Mark.row_wide in
    let u_in = c.loop-from.invariant.left c.in-Some.from c.in-Some.ensures.inside c.in-Some.ensures.has in
    let n_in : c.in-Some.from < length c.args.totals.now = omega (arith, u_in, c.requires.totals) in
    raised_past g.N.Kind.Mark.WIDTH _ net.few _ net.wide _ (sized c.args.totals.now) _ _ _ _ (sized c.loop-from.next) c.loop-from.invariant c.in-Some.from _ c.in-Some.ensures (cell_is row c.args.totals.now c.in-Some.from _ n_in c.index-totals-from.is ∙ ap (option_map row) {y = None} (search rules))

pub returns : goal.returns
returns g c =
    let row = g.N.Kind.Mark.row in
    let net = g.met.N.Network.sound c.args.net.now in
    let sized = times_sized g.N.Kind.Mark.WIDTH (g.N.Network.size c.args.net.now) row g.met.N.Kind.Mark.row_wide in
    raised_all g.N.Kind.Mark.WIDTH _ net.few _ net.wide _ (sized c.args.totals.now) _ _ _ _ (search rules) (sized c.loop-from.next) c.loop-from.invariant
