-- Totals that keep every lag leave no loop, so that there is a schedule.
use Rattle.std.proofs.Common.{◌≡◌, ℕ, ◌≤◌, ◌≢◌, true, not, List, [], ◌∷◌, Some, None, Option, Ordering, Less, Equal, Greater, subst, ◌∙◌}
use Rattle.std.proofs.lemmas.Bool.{false≢true}
use Rattle.std.specs.Ordering.{MatchOrdering, is_lt}
use Rattle.rows.proofs.Options.{none_or_some}
use Rattle.rows.specs.MaxPlus.{added}
use Rattle.rows.specs.Rows.{Row, plus, Before, NotBefore}
use Rattle.rows.proofs.Order.{before_asym, NotBefore-same}
use Rattle.schedules.proofs.Chains.{Covers, closed_unknown}
use Rattle.schedules.proofs.Covered.{loop_free_schedulable}
use Rattle.schedules.proofs.Optional.{some_none}
use Rattle.schedules.proofs.Rounds.{WideTotals}
use Rattle.schedules.specs.Plans.{AtLeast, Chain, Lags, LoopFree, Schedulable, Totals, Wide}
use Rattle.plan.specs.Witness.{Kept, KeepAll}

kept_covers : (t s l : Option Row) → Kept t s l → AtLeast t (added s l)
kept_covers t None None k = tt
kept_covers t (Some b) None k = tt
kept_covers None s (Some a) k = absurd k
kept_covers (Some c) s (Some a) k = k

kept_known : (t s l : Option Row) (a : Row) → Kept t s l → l ≡ Some a → t ≢ None
kept_known t s None a k e = none_or_some a e
kept_known None s (Some b) a k e = absurd k
kept_known (Some c) s (Some b) a k e = some_none

-- where a total is not before a sum
pub kept_by : (o : Ordering) (t l s a : Row) → MatchOrdering o (Before t l) (t ≡ l) (Before l t) → not (is_lt o) ≡ true → l ≡ plus s a → NotBefore t (plus s a)
kept_by Less t l s a m n e = absurd (false≢true n)
kept_by Equal t l s a m n e = NotBefore-same t (plus s a) (m ∙ e)
kept_by Greater t l s a m n e = subst (NotBefore t) e (λ b. before_asym l t m b)

module _ (w m : ℕ) (L : Lags) (S : Totals) (sized : WideTotals w m S) (keep : KeepAll m L S) where
  all_covered : Covers m L S
  all_covered v u v_in u_in = kept_covers (S v) (S u) (L v u) (keep v v_in u u_in)

  -- every chain ends at an event that has a time
  ends_known : (es : List ℕ) (u v : ℕ) (r : Row) → Chain m L u es v r → S v ≢ None
  ends_known [] u v r c = kept_known (S v) (S u) (L v u) r (keep v c.1 u c.0) c.2
  ends_known (t ∷ es) u v r c = ends_known es t v c.1 c.4

  no_loop : LoopFree w m L
  no_loop [] l = l
  no_loop (e ∷ es) l = closed_unknown w m L S sized all_covered es e l.2.0 l.2.1.0 l.2.1.1 (ends_known es e e l.2.0 l.2.1.0)

  pub keep_schedulable : Wide w m L → 1 ≤ m → Schedulable w m L
  keep_schedulable wide first = loop_free_schedulable w m L wide first no_loop
