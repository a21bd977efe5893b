-- Totals that have settled, from any first ones, rule out every loop through an event that has one.
use Rattle.std.proofs.Common.{ℕ, ◌≤◌, ◌≢◌, ◌⊎◌, List, [], ◌∷◌, None, refl, inl, inr}
use Rattle.schedules.specs.Plans.{Lags, Totals, Wide, Schedulable, Has, Loop, LoopFree}
use Rattle.schedules.specs.Rounds.{rounds, Settled}
use Rattle.schedules.proofs.Chains.{loop_unknown}
use Rattle.schedules.proofs.Changes.{schedule_or_loop}
use Rattle.schedules.proofs.Rounds.{WideTotals, rounds_sized, Settled-covers}

module _ (w m : ℕ) (L : Lags) (wide : Wide w m L) where
  pub settled_unknown : (b : Totals) → WideTotals w m b → (k : ℕ) → Settled m L b k → (es : List ℕ) (f : ℕ) → Loop w m L es → Has f es → rounds m L b k f ≢ None → ⊥
  settled_unknown b sized k f =
      loop_unknown w m L (rounds m L b k) (rounds_sized w m L wide b sized k) (Settled-covers w m L wide b sized k f)

  -- so where a loop could only begin at such an event, there is none
  pub settled_loop_free : (b : Totals) → WideTotals w m b → (k : ℕ) → Settled m L b k → ((e : ℕ) (es : List ℕ) → Loop w m L (e ∷ es) → rounds m L b k e ≢ None) → LoopFree w m L
  settled_loop_free b sized k f known [] l = l
  settled_loop_free b sized k f known (e ∷ es) l = settled_unknown b sized k f (e ∷ es) e l (inl refl) (known e es l)

  -- and where there is none, there is a schedule
  pub loop_free_schedulable : 1 ≤ m → LoopFree w m L → Schedulable w m L
  loop_free_schedulable first none = go (schedule_or_loop w m L wide first)
    where
      go : Schedulable w m L ⊎ ((es : List ℕ) × Loop w m L es) → Schedulable w m L
      go (inl s) = s
      go (inr l) = absurd (none l.0 l.1)
