-- The least times of the reversed plan, over turned marks, and the greatest times of the plan, each
-- from the other.
use Rattle.std.proofs.Common.{ℕ, List, get_or, Some, None, Option}
use Rattle.std.specs.Option.{option_map}
use Rattle.rows.specs.Rows.{Row, negated}
use Rattle.schedules.specs.Plans.{Lags, Wide, reversed}
use Rattle.schedules.proofs.Mirrored.{mirrored_latest, mirrored_free}
use Rattle.schedules.specs.Answers.{LeastTime, LeastTimes, GreatestTime, GreatestTimes}
use Rattle.schedules.specs.Tables.{times}
use Rattle.marks.specs.declared.turned.Turned.{Turned}

module _ {T : Type 0} (w m : ℕ) (L : Lags) (wide : Wide w m L) (row : T → Row) where
  mirrored : (e : ℕ) (x : Option (Turned T)) → LeastTime w m (reversed L) e (option_map (λ t. negated (row t.inner)) x) → GreatestTime w m L e (option_map (λ t. row t.inner) x)
  mirrored e None h = (mirrored_free w m L wide e).1 h
  mirrored e (Some t) h = (mirrored_latest w m L wide e (row t.inner)).1 h

  pub greatest_from : (turned : List (Option (Turned T))) → LeastTimes w m (reversed L) (times (λ t. negated (row t.inner)) turned) → GreatestTimes w m L (times (λ t. row t.inner) turned)
  greatest_from turned least e h = mirrored e (get_or turned e None) (least e h)

-- an event's greatest time with every sign changed
pub least_mirrored : (w m : ℕ) (L : Lags) → Wide w m L → (e : ℕ) (x : Option Row) → GreatestTime w m L e x → LeastTime w m (reversed L) e (option_map negated x)
least_mirrored w m L wide e None h = (mirrored_free w m L wide e).0 h
least_mirrored w m L wide e (Some r) h = (mirrored_latest w m L wide e r).0 h
