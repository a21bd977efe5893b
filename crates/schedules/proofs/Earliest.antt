-- The least times from the opening alone are the least times of a plan that has a schedule, and an
-- event that has none there has none at all.
use Rattle.std.proofs.Common.{◌≡◌, ℕ, ◌<◌, ◌≤◌, Some, None, Option, subst}
use Rattle.rows.specs.Rows.{Row, zeros}
use Rattle.schedules.specs.Plans.{Lags, AtLeast, Wide, KeepsLags, Schedule, Schedulable, Earliest, FreeBelow}
use Rattle.schedules.specs.Firsts.{AtTotals, LeastFrom}
use Rattle.schedules.specs.Rounds.{rounds, opening, Settled}
use Rattle.schedules.proofs.Rounds.{opening_sized}
use Rattle.schedules.proofs.Least.{settled_least}
use Rattle.schedules.proofs.Under.{after_opening, opening_stays}

module _ (w m : ℕ) (L : Lags) (wide : Wide w m L) (first : 1 ≤ m) (k : ℕ) (f : Settled m L (opening w) k) where
  least_times : Schedulable w m L → LeastFrom w m L (opening w) (rounds m L (opening w) k)
  least_times p = settled_least w m L wide (opening w) (opening_sized w m) k f p.0 p.1.keeping

  -- times at the totals have the opening at zero
  opens_at : Schedulable w m L → (x : ℕ → Row) → KeepsLags w m L x → AtTotals m (rounds m L (opening w) k) x → Schedule w m L x
  opens_at p x t at = record { keeping = t; opens = at 0 (zeros w) first (opening_stays w m L wide first k p.0 p.1) }

  -- a total is the least time
  pub settled_earliest : Schedulable w m L → (e : ℕ) (r : Row) → e < m → rounds m L (opening w) k e ≡ Some r → Earliest w m L e r
  settled_earliest p e r e_in h =
      let t = least_times p in
      record {
        attained = (t.met.0, (opens_at p t.met.0 t.met.1.0 t.met.2, t.met.2 e r e_in h));
        least = λ x s. subst (λ (o : Option Row). AtLeast (Some (x e)) o) h (t.under x (s.keeping, after_opening w m L x s) e e_in);
      }

  -- an event that is not reached has none
  pub settled_free : 1 ≤ w → Schedulable w m L → (e : ℕ) → e < m → rounds m L (opening w) k e ≡ None → FreeBelow w m L e
  settled_free some p e e_in h r wr =
      let x = (least_times p).free some e e_in h r wr in
      (x.0, (opens_at p x.0 x.1.0 x.2, x.3))
