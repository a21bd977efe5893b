use Rattle.std.proofs.Common.{rules, ◌≡◌, ℕ, suc, ◌+◌, ◌*◌, ◌<◌, Some, sym, ap, ◌∙◌, arith}
use Rattle.std.specs.Option.{option_map}
use Rattle.rows.specs.Limits.{lag_limit, given_limit}
use Rattle.rows.specs.MaxPlus.{later, added}
use Rattle.rows.specs.Rows.{Row, Within}
use Rattle.schedules.specs.Plans.{Lags, Totals}
use Rattle.schedules.specs.Tables.{start, lags, times}
use Rattle.plan.proofs.stages.latest_arrival.Goals as goal

pub fold_stages-requires : goal.fold_stages-requires
fold_stages-requires g c =
    let table = c.args.table.now in
    let x : Totals = times g.K.Mark.row c.args.starts.now in (
      search rules,
      λ k l.
          let at : 2 * k + 1 ≡ start (suc k) = omega arith in
          let from : 2 * k + 1 < table.count = omega (arith, table.laid) in
          let near : (r : Row) → x (2 * k + 1) ≡ Some r → Within (given_limit + lag_limit) r = λ r e. c.requires.1 (suc k) (omega arith) (omega arith) r (sym (ap x at) ∙ e) in
          search rules,
    )

pub returns : goal.returns
returns g c =
    let K = g.K.Mark in
    let table = c.args.table.now in
    let to = c.args.to in
    let x : Totals = times K.row c.args.starts.now in
    let L : Lags = lags K.amount table.count table.lags.now in
    c.fold_stages.ensures later (λ j. added (x (start (suc j))) (L to (start (suc j)))) (λ a b r h. h.2) (λ j time l h.
    let at : 2 * j + 1 ≡ start (suc j) = omega arith in
    let here : option_map K.row time ≡ added (x (2 * j + 1)) (L to (2 * j + 1)) = search rules in
    here ∙ ap (λ (i : ℕ). added (x i) (L to i)) at)
