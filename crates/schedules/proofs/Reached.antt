-- Of rounds settled from any first totals an event has a total exactly where a chain reaches it from
-- an event that has a first one.
use Rattle.std.proofs.Common.{◌≡◌, ℕ, zero, suc, ◌<◌, ◌≢◌, ◌⊎◌, List, [], ◌∷◌, ◌++◌, Some, None, Option, sym, ◌∙◌, subst, inl, inr}
use Rattle.rows.specs.Rows.{Row, plus}
use Rattle.rows.specs.MaxPlus.{added}
use Rattle.schedules.specs.Plans.{Lags, Totals, Wide, Chain}
use Rattle.schedules.specs.Firsts.{ReachedFrom}
use Rattle.schedules.specs.Rounds.{round, rounds, Settled}
use Rattle.schedules.specs.Walks.{Source}
use Rattle.schedules.proofs.Chains.{chain_from}
use Rattle.schedules.proofs.Optional.{known_under, added_known, some_none}
use Rattle.schedules.proofs.Rotation.{Chain-join}
use Rattle.schedules.proofs.Rounds.{WideTotals, rounds_known, round_source, Settled-covers}

module _ (w m : ℕ) (L : Lags) (wide : Wide w m L) (b : Totals) (sized : WideTotals w m b) (k : ℕ) (f : Settled m L b k) where
  -- a lag from an event that has a total, and so a chain
  lag_known : (v u : ℕ) (a : Row) → v < m → u < m → L v u ≡ Some a → rounds m L b k u ≢ None → rounds m L b k v ≢ None
  lag_known v u a v_in u_in e n =
      known_under (rounds m L b k v) (added (rounds m L b k u) (L v u)) (Settled-covers w m L wide b sized k f v u v_in u_in) (subst (λ (l : Option Row). added (rounds m L b k u) l ≢ None) (sym e) (added_known (rounds m L b k u) a n))

  chain_known : (es : List ℕ) (u v : ℕ) (r : Row) → Chain m L u es v r → rounds m L b k u ≢ None → rounds m L b k v ≢ None
  chain_known [] u v r c n = lag_known v u r c.1 c.0 c.2 n
  chain_known (t ∷ es) u v r c n =
      chain_known es t v c.1 c.4 (lag_known t u c.0 (chain_from m L es t v c.1 c.4) c.2 c.3 n)

  pub from_reached : (v : ℕ) → v < m → ReachedFrom m L b v → rounds m L b k v ≢ None
  from_reached v v_in (inl n) = rounds_known w m L wide b sized k v v_in n
  from_reached v v_in (inr (u, n, (es, r, c))) =
      chain_known es u v r c (rounds_known w m L wide b sized k u (chain_from m L es u v r c) n)

reached_more : (m : ℕ) (L : Lags) (b : Totals) (v u : ℕ) (a : Row) → v < m → u < m → L v u ≡ Some a → ReachedFrom m L b u → ReachedFrom m L b v
reached_more m L b v u a v_in u_in e (inl n) = inr (u, n, ([], a, (u_in, v_in, e)))
reached_more m L b v u a v_in u_in e (inr (t, n, (es, r, c))) =
    inr (t, n, (es ++ u ∷ [], plus r a, Chain-join m L es [] t u v r a c (u_in, v_in, e)))

pub reached_from : (m : ℕ) (L : Lags) (b : Totals) (k v : ℕ) → v < m → rounds m L b k v ≢ None → ReachedFrom m L b v
reached_from m L b zero v v_in n = inl n
reached_from m L b (suc k) v v_in n = go (round_source m L (rounds m L b k) v) (reached_from m L b k)
  where
    go : (round m L (rounds m L b k) v ≡ rounds m L b k v) ⊎ ((u : ℕ) × Source m L (rounds m L b k) v u (round m L (rounds m L b k) v)) → ((u : ℕ) → u < m → rounds m L b k u ≢ None → ReachedFrom m L b u) → ReachedFrom m L b v
    go (inl e) rest = rest v v_in (λ q. n (e ∙ q))
    go (inr s) rest = reached_more m L b v s.0 s.1.lag v_in s.1.inside s.1.stands (rest s.0 s.1.inside (λ q. some_none (sym s.1.known ∙ q)))
