use Rattle.std.proofs.Common.{rules, ◌≡◌, ℕ, suc, ◌+◌, ◌*◌, ◌<◌, ap, ◌∙◌, subst, arith}
use Rattle.std.specs.Option.{option_map}
use Rattle.rows.specs.MaxPlus.{earlier, taken}
use Rattle.schedules.specs.Plans.{Lags, Totals}
use Rattle.schedules.specs.Tables.{finish, lags, times}
use Rattle.plan.specs.Checks.{Given}
use Rattle.plan.proofs.Passed.{all_given}
use Rattle.plan.proofs.calls.backward.earliest_departure.Goals as goal

pub fold_stages-requires : goal.fold_stages-requires
fold_stages-requires g c =
    let table = c.args.table.now in
    let due = c.args.due.now in
    let d : Totals = times g.K.Mark.row due.totals.now in (
      search rules,
      λ k l.
          let at : 2 + 2 * k ≡ 2 * k + 2 = omega arith in
          let to : 2 * k + 2 < table.count = omega (arith, table.laid) in
          let given = subst (λ (i : ℕ). Given (d i)) at (all_given d 2 2 due.count due.all k (omega (arith, c.requires.0))) in
          search rules,
    )

pub returns : goal.returns
returns g c =
    let K = g.K.Mark in
    let table = c.args.table.now in
    let d : Totals = times K.row c.args.due.now.totals.now in
    let L : Lags = lags K.amount table.count table.lags.now in
    let u = c.args.from in
    c.fold_stages.ensures earlier (λ j. taken (d (finish (suc j))) (L (finish (suc j)) u)) (λ a b r h. h.2) (λ j time l h.
    let here : option_map K.row time ≡ taken (d (2 * j + 2)) (L (2 * j + 2) u) = search rules in
    let next : 2 * j + 2 ≡ finish (suc j) = omega arith in
    here ∙ ap (λ (i : ℕ). taken (d i) (L i u)) next)
