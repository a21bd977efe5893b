-- Totals of the mirrored plan, settled from the opening, are the greatest times with every sign
-- changed.
use Rattle.std.proofs.Common.{◌≡◌, ℕ, ◌<◌, ◌≤◌, Some, None, sym, subst}
use Rattle.rows.specs.Rows.{Row, negated}
use Rattle.rows.proofs.Sums.{negated-negated}
use Rattle.schedules.specs.Plans.{Lags, Wide, Schedulable, Earliest, Latest, FreeAbove, reversed}
use Rattle.schedules.specs.Rounds.{rounds, opening, Settled}
use Rattle.schedules.proofs.Earliest.{settled_earliest, settled_free}
use Rattle.schedules.proofs.Mirrored.{Wide-reversed, mirrored_schedulable, mirrored_latest, mirrored_free}

module _ (w m : ℕ) (L : Lags) (wide : Wide w m L) (first : 1 ≤ m) (k : ℕ) (f : Settled m (reversed L) (opening w) k) where
  pub settled_latest : Schedulable w m L → (e : ℕ) (r : Row) → e < m → rounds m (reversed L) (opening w) k e ≡ Some r → Latest w m L e (negated r)
  settled_latest p e r e_in h =
      (mirrored_latest w m L wide e (negated r)).1 (subst (Earliest w m (reversed L) e) (sym (negated-negated r)) (settled_earliest w m (reversed L) (Wide-reversed w m L wide) first k f ((mirrored_schedulable w m L wide).0 p) e r e_in h))

  pub settled_free_above : 1 ≤ w → Schedulable w m L → (e : ℕ) → e < m → rounds m (reversed L) (opening w) k e ≡ None → FreeAbove w m L e
  settled_free_above some p e e_in h =
      (mirrored_free w m L wide e).1 (settled_free w m (reversed L) (Wide-reversed w m L wide) first k f some ((mirrored_schedulable w m L wide).0 p) e e_in h)
