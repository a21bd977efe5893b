-- Worked flows, of plans written down lag by lag.
use Rattle.std.specs.Prelude.{ℕ, cond, ◌&&◌, List, [], ◌∷◌, ℤ, pos, neg_ℤ, Some, None, ◌==◌, slice_index_or}
use Rattle.schedules.specs.Flows.{Flow}
use Rattle.schedules.specs.Plans.{Lags, Totals}
use Rattle.schedules.specs.Rounds.{opening}

-- the lags listed: of each the event that it is to, the event that it is from, and its minutes
abbrev pub laid : List (ℕ × ℕ × ℤ) → Lags
laid [] v u = None
laid (t ∷ ts) v u = cond (v == t.0 && u == t.1) (Some (t.2 ∷ [])) (laid ts v u)

-- the minutes listed, one for each event from the opening on
abbrev pub timed : List ℤ → Totals
timed zs v = Some (slice_index_or zs v (pos 0) ∷ [])

-- two stages; stage 1 finishes 1 and 4 after the starts of stages 1 and 2, stage 2 finishes 3 and 1
-- after them
abbrev pub two_rows : List (ℕ × ℕ × ℤ)
two_rows = (2, 1, pos 1) ∷ (2, 3, pos 4) ∷ (4, 1, pos 3) ∷ (4, 3, pos 1) ∷ []

-- three stages, by their finishes likewise, due by 9, 8 and 9
abbrev pub three_rows : List (ℕ × ℕ × ℤ)
three_rows =
    (2, 1, pos 2) ∷ (2, 3, pos 4) ∷ (2, 5, pos 4) ∷ (0, 2, neg_ℤ (pos 9))
    ∷ (4, 1, pos 2) ∷ (4, 3, pos 3) ∷ (4, 5, pos 5) ∷ (0, 4, neg_ℤ (pos 8))
    ∷ (6, 1, pos 3) ∷ (6, 3, pos 2) ∷ (6, 5, pos 3) ∷ (0, 6, neg_ℤ (pos 9)) ∷ []

-- stage 1 lasts at least 120, stage 2 at least 90, and stage 2 follows stage 1 by 30 at its start
-- and by 45 at its finish; not before 60, due by 300
abbrev pub two_stages : List (ℕ × ℕ × ℤ)
two_stages =
    (2, 1, pos 120) ∷ (3, 1, pos 30) ∷ (4, 2, pos 45) ∷ (4, 3, pos 90)
    ∷ (1, 0, pos 60) ∷ (0, 4, neg_ℤ (pos 300)) ∷ []

pub record WorkedFlows : Type 0 where
  -- with no lags, whatever the number of stages: `opening 1` has every event free but the opening
  pub none : (n : ℕ) → Flow n (laid []) 0 (opening 1)
  pub two : Flow 2 (laid two_rows) 4 (opening 1)
  -- the starts are 4, 4 and 3
  pub three : Flow 3 (laid three_rows) 4
      (timed (pos 0 ∷ pos 4 ∷ pos 8 ∷ pos 4 ∷ pos 8 ∷ pos 3 ∷ pos 7 ∷ []))
  pub stages : Flow 2 (laid two_stages) 120
      (timed (pos 0 ∷ pos 135 ∷ pos 255 ∷ pos 210 ∷ pos 300 ∷ []))
