-- What holds of a plan of a kind of one part with its due times and the greatest starts in time.
use Rattle.std.proofs.Common.{◌≡◌, ℕ, ◌+◌, ◌*◌, ◌≤◌, [], ◌∷◌, length, false, Some, sym, ◌∙◌, subst}
use Rattle.rows.specs.Limits.{lag_limit, given_limit}
use Rattle.rows.specs.Rows.{Row, Within}
use Rattle.rows.proofs.Options.{same_some}
use Rattle.marks.specs.declared.kind.Mark.{Ghosts}
use Rattle.schedules.specs.Plans.{Totals, Wide, columns}
use Rattle.schedules.proofs.Meanings.{table_holds, row_holds, lags_wide, times_wide}
use Rattle.plan.specs.Checks.{Given, totals_missed}
use Rattle.schedules.specs.Tables.{finish, events}
use Rattle.schedules.specs.Folds.{StartsInside}
use Rattle.plan.proofs.Passing.{finishes_given}
use Rattle.schedules.specs.Closest.{Closest}
use Rattle.schedules.specs.Nearing.{Moved, MovedFits}
use Rattle.schedules.specs.Minutes.{minute}
use Rattle.plan.specs.Passing.{lags_of}
use Rattle.plan.specs.Timed.{due_of, best_of, largest_of}
use Rattle.plan.specs.declared.calls.closest.timely.Timely.{Timely}
use Rattle.schedules.proofs.Nearest.{closest, starts_inside, moved_fits}
use Rattle.schedules.proofs.One.{there}

module _ {T A : Type 0} {kind : Ghosts T A} (wide : (t : T) → length (kind.row t) ≡ kind.WIDTH) (broad : (a : A) → length (kind.amount a) ≡ kind.WIDTH)
    (small : (a : A) → Within lag_limit (kind.amount a)) (plan : Timely T A kind) where
  abbrev n : ℕ
  n = plan.table.stages

  wide_L : Wide 1 (events n) (lags_of plan.table)
  wide_L = subst (λ (w : ℕ). Wide w (events n) (lags_of plan.table)) plan.one (lags_wide kind.WIDTH kind.amount broad (events n) plan.table.count plan.table.lags.now)

  limit_L : (v u : ℕ) (r : Row) → lags_of plan.table v u ≡ Some r → Within lag_limit r
  limit_L v u r e = table_holds (Within lag_limit) kind.amount small plan.table.count plan.table.lags.now v u r e

  wide_due : (v : ℕ) (r : Row) → due_of plan v ≡ Some r → length r ≡ 1
  wide_due v r e = row_holds (λ q. length q ≡ kind.WIDTH) kind.row wide plan.due.totals.now v r e ∙ plan.one

  wide_best : Wide 1 (events n) (columns (best_of plan))
  wide_best = subst (λ (w : ℕ). Wide w (events n) (columns (best_of plan))) plan.one (times_wide kind.WIDTH kind.row wide (events n) plan.starts.now)

  given : (j : ℕ) → 1 ≤ j → j ≤ n → Given (due_of plan (finish j))
  given = finishes_given n (due_of plan) (subst (λ (i : ℕ). totals_missed (due_of plan) 2 2 i ≡ false) plan.laid plan.due.all)

  due_there : (j : ℕ) → 1 ≤ j → j ≤ n → due_of plan (finish j) ≡ Some (minute (due_of plan (finish j)) ∷ [])
  due_there j low high = let g = given j low high in there (due_of plan (finish j)) g.0 g.1 (wide_due (finish j) g.0 g.1)

  limit_d : (j : ℕ) → 1 ≤ j → j ≤ n → Within given_limit (minute (due_of plan (finish j)) ∷ [])
  limit_d j low high =
      let g = given j low high in
      subst (Within given_limit) (same_some g.0 (minute (due_of plan (finish j)) ∷ []) (sym g.1 ∙ due_there j low high)) g.2

  pub inside : StartsInside n (best_of plan)
  inside = starts_inside n (lags_of plan.table) (due_of plan) (best_of plan) wide_L wide_best due_there plan.ready.served plan.ready.greatest limit_L limit_d

  pub fits : (e : ℕ) → 2 * e ≤ largest_of plan + 1 → MovedFits n (best_of plan) e
  fits = moved_fits n (lags_of plan.table) (due_of plan) (best_of plan) wide_L wide_best due_there plan.ready.served plan.ready.greatest limit_L limit_d

  pub is_closest : (e : ℕ) (y : Totals) → largest_of plan ≤ 2 * e → 2 * e ≤ largest_of plan + 1 → Moved n (best_of plan) e y → Closest n (lags_of plan.table) (due_of plan) y e
  is_closest e y enough tight moved = closest n (lags_of plan.table) (due_of plan) (best_of plan) wide_L wide_best due_there plan.ready.served plan.ready.greatest e y enough moved tight
