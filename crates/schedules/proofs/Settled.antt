-- Settled totals of which none is missing keep the lags, and are a schedule once shifted so that the
-- opening is at zero; so are those from everywhere.
use Rattle.std.proofs.Common.{◌≡◌, ℕ, ◌≤◌, ◌≢◌, length, Some, None, Option, refl, subst}
use Rattle.rows.specs.Rows.{Row, plus, NotBefore}
use Rattle.schedules.specs.Plans.{Lags, Totals, AtLeast, AllKnown, Wide, KeepsLags, Schedule, Schedulable}
use Rattle.rows.specs.MaxPlus.{added}
use Rattle.schedules.specs.Rounds.{rounds, everywhere, total_of, since_opening, Settled}
use Rattle.schedules.proofs.Optional.{WideRow, some_none}
use Rattle.schedules.proofs.Rounds.{WideTotals, rounds_sized, everywhere_sized, rounds_known, Settled-covers}
use Rattle.schedules.proofs.Times.{opened}

total_sized : (w : ℕ) (o : Option Row) → o ≢ None → WideRow w o → length (total_of w o) ≡ w
total_sized w None n e = absurd (n refl)
total_sized w (Some x) n e = e

total_keeps : (w : ℕ) (p o l : Option Row) (a : Row) → o ≢ None → l ≡ Some a → AtLeast p (added o l) → NotBefore (total_of w p) (plus (total_of w o) a)
total_keeps w p None l a n e k = absurd (n refl)
total_keeps w None (Some x) l a n e k = absurd (subst (λ (q : Option Row). AtLeast None (added (Some x) q)) e k)
total_keeps w (Some z) (Some x) l a n e k = subst (λ (q : Option Row). AtLeast (Some z) (added (Some x) q)) e k

module _ (w m : ℕ) (L : Lags) (wide : Wide w m L) (b : Totals) (sized : WideTotals w m b) (k : ℕ) (f : Settled m L b k) (known : AllKnown m (rounds m L b k)) where
  pub known_times : KeepsLags w m L (λ v. total_of w (rounds m L b k v))
  known_times = record {
    wide = λ v v_in. total_sized w (rounds m L b k v) (known v v_in) (rounds_sized w m L wide b sized k v v_in);
    keeps = λ v u a v_in u_in e. total_keeps w (rounds m L b k v) (rounds m L b k u) (L v u) a (known u u_in) e (Settled-covers w m L wide b sized k f v u v_in u_in);
  }

  pub known_schedule : 1 ≤ m → Schedule w m L (since_opening w (rounds m L b k))
  known_schedule h = opened w m L wide (λ v. total_of w (rounds m L b k v)) h known_times

  pub known_schedulable : 1 ≤ m → Schedulable w m L
  known_schedulable h = (since_opening w (rounds m L b k), known_schedule h)

module _ (w m : ℕ) (L : Lags) (wide : Wide w m L) (k : ℕ) where
  -- from everywhere every event has a total
  everywhere_known : AllKnown m (rounds m L (everywhere w) k)
  everywhere_known v v_in = rounds_known w m L wide (everywhere w) (everywhere_sized w m) k v v_in some_none

  pub settled_schedule : 1 ≤ m → Settled m L (everywhere w) k → Schedule w m L (since_opening w (rounds m L (everywhere w) k))
  settled_schedule h f = known_schedule w m L wide (everywhere w) (everywhere_sized w m) k f everywhere_known h

  pub settled_schedulable : 1 ≤ m → Settled m L (everywhere w) k → Schedulable w m L
  settled_schedulable h f = known_schedulable w m L wide (everywhere w) (everywhere_sized w m) k f everywhere_known h
