use Rattle.std.proofs.Common.{◌≡◌, ◌+ℤ◌, to_z, of_z, w64, sym, ap, ◌∙◌, arith}
use Rattle.std.proofs.lemmas.Int.{ints}
use Rattle.plan.specs.FlowSteps.{lasting}
use Rattle.plan.proofs.FlowPairs.{made_of, part_missing, shifted_fits, shifted_row, shifted_wide}
use Rattle.plan.proofs.calls.flow.numbers.shifted.Goals as goal

pub returns-in_err-minute : goal.returns-in_err-minute
returns-in_err-minute g c =
    let K = g.K.Mark in
    part_missing K.WIDTH (K.row c.args.total) (g.met.K.Mark.row_wide c.args.total) c.requires.one (sym c.part.ensures ∙ c.in_err-minute.was)

pub overflow_add-minute : goal.overflow_add-minute
overflow_add-minute g c =
    let K = g.K.Mark in
    let fits = shifted_fits K.WIDTH (K.row c.args.total) c.in_ok-minute.minute c.args.minutes (g.met.K.Mark.row_wide c.args.total) c.requires.one (sym c.part.ensures ∙ c.in_ok-minute.was) (g.met.K.Mark.row_limit c.args.total) c.requires.inside in
    let low = fits.0 in
    let high = fits.1 in
    omega (arith, ints)

pub returns : goal.returns
returns g c =
    let K = g.K.Mark in
    let r = K.row c.args.total in
    let wide = g.met.K.Mark.row_wide c.args.total in
    let part = sym c.part.ensures ∙ c.in_ok-minute.was in
    let fits = shifted_fits K.WIDTH r c.in_ok-minute.minute c.args.minutes wide c.requires.one part (g.met.K.Mark.row_limit c.args.total) c.requires.inside in
    let low = fits.0 in
    let high = fits.1 in
    let e : to_z w64 (of_z w64 (to_z w64 (of_z w64 c.in_ok-minute.minute) +ℤ to_z w64 (of_z w64 c.args.minutes))) ≡ c.in_ok-minute.minute +ℤ c.args.minutes = omega (arith, ints) in
    let row = ap lasting e ∙ shifted_row K.WIDTH r c.in_ok-minute.minute c.args.minutes wide c.requires.one part in
    made_of K.WIDTH K.row _ _ c.make_total.result row (shifted_wide K.WIDTH r c.in_ok-minute.minute c.args.minutes wide c.requires.one part) c.make_total.ensures
