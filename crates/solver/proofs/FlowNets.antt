-- What the lags of a table offer a solver with those of a flow among them, in both directions.
use Rattle.std.proofs.Common.{◌≡◌, ℕ, ◌*◌, ◌≤◌, List, length, Option, sym, ap, ◌∙◌, subst, arith}
use Rattle.std.proofs.lemmas.Int.{ints}
use Rattle.rows.specs.Limits.{flow_limit, lag_limit, most_events, total_limit}
use Rattle.rows.specs.Rows.{Row, negated, Within}
use Rattle.rows.proofs.Limits.{flow_few_fit, lag_flows}
use Rattle.rows.proofs.Sums.{Within-wider}
use Rattle.schedules.specs.Flows.{flow_lags, with_flow}
use Rattle.schedules.specs.Minutes.{minutes}
use Rattle.schedules.specs.Plans.{Limited, Wide, reversed}
use Rattle.schedules.specs.Tables.{lags}
use Rattle.schedules.proofs.Flows.{added_some, later_either}
use Rattle.schedules.proofs.Meanings.{table_holds}
use Rattle.solver.specs.Networks.{Net}
use Rattle.solver.proofs.Nets.{limited_net}

flow_within : (f : ℕ) → f ≤ flow_limit → Within flow_limit (negated (minutes f))
flow_within f h = ((omega (arith, ints), omega (arith, ints)), tt)

module _ {A : Type 0} (w m f : ℕ) (amount : A → Row) (table : List (Option A)) (wide : (lag : A) → length (amount lag) ≡ w) (limited : (lag : A) → Within lag_limit (amount lag)) (one : w ≡ 1) (some : 1 ≤ m) (few : m ≤ most_events) (small : f ≤ flow_limit) where
  flowing_wide : Wide w m (with_flow f (lags amount m table))
  flowing_wide v u a v_in u_in e =
      later_either (λ r. length r ≡ w) (lags amount m table v u) (flow_lags f v u) a (λ b h. table_holds (λ r. length r ≡ w) amount wide m table v u b h) (λ b h. ap length (added_some f v u b h).1 ∙ sym one) e

  flowing_limited : Limited flow_limit m (with_flow f (lags amount m table))
  flowing_limited v u a v_in u_in e =
      later_either (Within flow_limit) (lags amount m table v u) (flow_lags f v u) a (λ b h. Within-wider lag_limit flow_limit b lag_flows (table_holds (Within lag_limit) amount limited m table v u b h)) (λ b h. subst (Within flow_limit) (sym (added_some f v u b h).1) (flow_within f small)) e

  room : m * flow_limit ≤ total_limit
  room = omega (arith, flow_few_fit m few)

  pub flow_net : Net w m (with_flow f (lags amount m table))
  flow_net = limited_net w flow_limit m (with_flow f (lags amount m table)) some few room flowing_wide flowing_limited

  pub reversed_flow_net : Net w m (reversed (with_flow f (lags amount m table)))
  reversed_flow_net = limited_net w flow_limit m (reversed (with_flow f (lags amount m table))) some few room (λ v u a v_in u_in e. flowing_wide u v a u_in v_in e) (λ v u a v_in u_in e. flowing_limited u v a u_in v_in e)
