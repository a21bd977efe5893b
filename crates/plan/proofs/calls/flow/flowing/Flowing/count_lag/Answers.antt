use Rattle.std.proofs.Common.{refl, inr, arith}
use Rattle.std.proofs.lemmas.Int.{ints}
use Rattle.plan.proofs.FlowLoops.{sum_fits}
use Rattle.plan.proofs.calls.flow.flowing.Flowing.count_lag.Goals as goal

pub overflow_add-result-in-Some : goal.overflow_add-result-in-Some
overflow_add-result-in-Some g c =
    let fits = sum_fits c.args.tally c.in-Some.minutes c.requires.inside c.in-Some.ensures.inside in
    let low = fits.0 in
    let high = fits.1 in
    omega (arith, ints)

pub returns-in-Some : goal.returns-in-Some
returns-in-Some g c =
    let fits = sum_fits c.args.tally c.in-Some.minutes c.requires.inside c.in-Some.ensures.inside in
    let low = fits.0 in
    let high = fits.1 in
    inr (c.in-Some.minutes, c.in-Some.ensures.is, c.in-Some.ensures.inside, refl, omega (arith, ints))
