-- The greatest times of a plan, turned, are the least times of every table that mirrors its table.
use Rattle.std.proofs.Common.{◌≡◌, ℕ, List, length, get_or, map, drop, Some, None, Option, refl, sym, ap, ◌∙◌, subst₂}
use Rattle.std.proofs.Math.ListN.{get_or-map}
use Rattle.std.proofs.lemmas.List.{drop-map}
use Rattle.std.specs.Option.{option_map}
use Rattle.rows.specs.Rows.{Row, negated}
use Rattle.marks.specs.declared.kind.Mark.{Ghosts}
use Rattle.marks.specs.declared.turned.Turned.{Turned}
use Rattle.schedules.proofs.Meanings.{lags_wide}
use Rattle.schedules.specs.Answers.{LeastTime, LeastTimes, GreatestTimes}
use Rattle.schedules.specs.Plans.{Lags, reversed}
use Rattle.schedules.specs.Tables.{events, place, times}
use Rattle.plan.specs.Calls.{lags_in, TimesWritten}
use Rattle.plan.specs.Mirror.{IsMirror, all_turned, LatestIsEarliestReversed}
use Rattle.plan.proofs.Mirroring.{least_mirrored}
use Rattle.plan.proofs.Putting.{Agree, LeastTime-same}

-- a kind, and the kind of its turned totals
module _ {T A : Type 0} (kind : Ghosts T A) (turned : Ghosts (Turned T) A) (width : kind.WIDTH ≡ turned.WIDTH)
    (means : (t : Turned T) → turned.row t ≡ negated (kind.row t.inner)) (amounts : (a : A) → kind.amount a ≡ turned.amount a)
    (broad : (a : A) → length (kind.amount a) ≡ kind.WIDTH) where
  abbrev turn : Option T → Option (Turned T)
  turn = option_map (λ t. record { inner = t })

  amount_same : (o : Option A) → option_map kind.amount o ≡ option_map turned.amount o
  amount_same None = refl
  amount_same (Some a) = ap Some (amounts a)

  row_turned : (o : Option T) → option_map negated (option_map kind.row o) ≡ option_map turned.row (turn o)
  row_turned None = refl
  row_turned (Some t) = ap Some (sym (means (record { inner = t })))

  times_turned : (totals : List (Option T)) (e : ℕ) → option_map negated (times kind.row totals e) ≡ times turned.row (all_turned totals) e
  times_turned totals e =
      row_turned (get_or totals e None) ∙ ap (option_map turned.row) (sym (get_or-map turn totals e None))

  mirror_agrees : (n : ℕ) (table mirror : List (Option A)) → IsMirror (events n) table mirror → Agree (events n) (reversed (lags_in kind n table)) (lags_in turned n mirror)
  mirror_agrees n table mirror mirrors v u v_in u_in =
      amount_same (get_or table (place (events n) u v) None) ∙ ap (option_map turned.amount) (sym (mirrors v u v_in u_in))

  pub latest_is_earliest_reversed : (n : ℕ) (table : List (Option A)) (answer after : List (Option T)) → TimesWritten GreatestTimes kind n table answer after → LatestIsEarliestReversed turned n table answer after
  latest_is_earliest_reversed n table answer after h mirror mirrors = record { written = written; rest = rest }
    where
      m : ℕ
      m = events n

      L : Lags
      L = lags_in kind n table

      M : Lags
      M = lags_in turned n mirror

      written : LeastTimes turned.WIDTH m M (times turned.row (all_turned after))
      written e e_in =
          let greatest = times kind.row after e in
          let least = least_mirrored kind.WIDTH m L (lags_wide kind.WIDTH kind.amount broad m m table) e greatest (h.written e e_in) in
          let at_mirror = LeastTime-same kind.WIDTH m (reversed L) M (mirror_agrees n table mirror mirrors) e (option_map negated greatest) least in
          subst₂ (λ (w : ℕ) (x : Option Row). LeastTime w m M e x) width (times_turned after e) at_mirror

      rest : drop m (all_turned after) ≡ drop m (all_turned answer)
      rest = drop-map turn m after ∙ ap (map turn) h.rest ∙ sym (drop-map turn m answer)
