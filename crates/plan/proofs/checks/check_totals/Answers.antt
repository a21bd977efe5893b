use Rattle.std.proofs.Common.{◌≡◌, false, None, sym, ◌∙◌}
use Rattle.std.proofs.lemmas.Bool.{cond-false, not-true}
use Rattle.plan.specs.Checks.{totals_missed}
use Rattle.schedules.specs.Tables.{times}
use Rattle.plan.proofs.Passed.{all_given}
use Rattle.plan.proofs.checks.check_totals.Goals as goal

pub returns-then-are_given : goal.returns-then-are_given
returns-then-are_given g c few =
    let x = times g.K.Mark.row c.args.totals.now in
    let missed = totals_missed x c.args.first c.args.step c.args.count in
    let none : totals_missed (times g.K.Mark.row c.args.totals.now) c.args.first c.args.step c.args.count ≡ false = not-true missed (sym (c.are_given.ensures few) ∙ c.if-are_given.true) in
    record {
      none_missed = cond-false missed _ None none;
      answer = all_given x c.args.first c.args.step c.args.count none;
    }
