-- A lag put into a plan whose times are known, and the times repaired.
use Rattle.std.specs.Prelude.{◌≡◌, ℕ, List, Some, None, Option, slice_set}
use Rattle.marks.specs.declared.kind.Mark.{Ghosts}
use Rattle.schedules.specs.Answers.{Shown}
use Rattle.schedules.specs.Firsts.{LeastFrom}
use Rattle.schedules.specs.Plans.{AllKnown, KeepsLags, Lags, Totals, with_lag}
use Rattle.schedules.specs.Rounds.{everywhere, total_of}
use Rattle.schedules.specs.Tables.{events, lags, place, times}
use Rattle.solver.specs.Repairing.{Repaired}
use Rattle.solver.specs.Words.{Stands}

module _ {T A : Type 0} (kind : Ghosts T A) where
  -- what a row of totals means
  abbrev pub meant : List (Option T) → Totals
  meant = times kind.row

  module _ (n : ℕ) where
    -- what a table of n stages means
    abbrev pub plan_lags : List (Option A) → Lags
    plan_lags = lags kind.amount (events n)

    -- the same with a lag to `to` from `from` in stead of what stands there
    abbrev lags_put : (to from : ℕ) → A → List (Option A) → Lags
    lags_put to from lag table = with_lag (plan_lags table) to from (kind.amount lag)

    -- The words have the lags that stand, and the totals are the least times that keep them and are
    -- nowhere before zero; every event has one.
    pub record LeastFromZero (table : List (Option A)) (words : List ℕ)
        (totals : List (Option T)) : Type 0 where
      pub standing : Stands (events n) (plan_lags table) words
      pub known : AllKnown (events n) (meant totals)
      pub keeps : KeepsLags kind.WIDTH (events n) (plan_lags table)
          (λ v. total_of kind.WIDTH (meant totals v))
      pub least : LeastFrom kind.WIDTH (events n) (plan_lags table) (everywhere kind.WIDTH)
          (meant totals)

    -- The lag is in its place, and the words have the lags that stand. The totals are repaired, and
    -- the row is as it was.
    pub record Put (to from : ℕ) (lag : A) (table after : List (Option A)) (words : List ℕ)
        (first totals : List (Option T)) (row row_after : List ℕ) : Type 0 where
      pub put : after ≡ slice_set table (place (events n) to from) (Some lag)
      pub standing : Stands (events n) (plan_lags after) words
      pub repaired : Repaired kind.WIDTH (events n) (plan_lags after) (meant first) (meant totals)
      pub loop_kept : row_after ≡ row

    -- Table and words are as they were. A loop of that length, of the plan with the lag, is in the
    -- first places of the row.
    pub record Undone (to from : ℕ) (lag : A) (table after : List (Option A))
        (words words_after row row_after : List ℕ) (len : ℕ) : Type 0 where
      pub table_kept : after ≡ table
      pub words_kept : words_after ≡ words
      pub shown : Shown kind.WIDTH (events n) (lags_put to from lag table) row row_after len

    abbrev pub PutEnds :
        (to from : ℕ) → A → (table after : List (Option A)) → (words words_after : List ℕ)
        → (first totals : List (Option T)) → (row row_after : List ℕ) → Option ℕ → Type 0
    PutEnds to from lag table after words words_after first totals row row_after None =
        Put to from lag table after words_after first totals row row_after
    PutEnds to from lag table after words words_after first totals row row_after (Some len) =
        Undone to from lag table after words words_after row row_after len
