-- Lags put one by one, each where nothing stood or where what stood asked no more: the times stay the
-- least from zero, and leave room for the next.
use Rattle.std.proofs.Common.{◌≡◌, ℕ, ◌+◌, ◌*◌, ◌<◌, ◌≤◌, List, length, get_or, replicate, slice_index, set, Some, None, Option, arith, sym, refl, ap, ◌∙◌, subst}
use Rattle.std.proofs.lemmas.Nat.Bits.{bit_at-zero}
use Rattle.std.proofs.lemmas.List.{get_or-replicate}
use Rattle.std.specs.Int.{bit_at}
use Rattle.std.specs.Option.{MatchOption, option_map}
use Rattle.rows.specs.Limits.{lag_limit, most_events, most_stages}
use Rattle.rows.specs.Rows.{Row, zeros, NotBefore, Within}
use Rattle.rows.proofs.Limits.{two_fit}
use Rattle.rows.proofs.Order.{NotBefore-same}
use Rattle.rows.proofs.Sums.{length-zeros}
use Rattle.marks.specs.declared.kind.Mark.{Ghosts as KindOf}
use Rattle.schedules.specs.Firsts.{AsksMore, LeastFrom}
use Rattle.schedules.specs.Plans.{with_lag}
use Rattle.schedules.specs.Rounds.{everywhere, total_of}
use Rattle.schedules.specs.Tables.{events, place, places}
use Rattle.schedules.proofs.Inside.{everywhere_inside, inside_to}
use Rattle.schedules.proofs.Least.{LeastFrom-alike}
use Rattle.schedules.proofs.Meanings.{lags_wide, table_holds}
use Rattle.schedules.proofs.Optional.{WideRow-to, some_inj, some_none}
use Rattle.schedules.proofs.Repairs.{lag_asks_more, repaired_inside, repaired_least}
use Rattle.schedules.proofs.Rounds.{everywhere_sized}
use Rattle.solver.specs.Settled.{LeavesRoom}
use Rattle.plan.specs.Repairing.{LeastFromZero, PutEnds, meant, plan_lags}
use Rattle.plan.proofs.Places.{place_below}
use Rattle.plan.proofs.Putting.{Agree, KeepsLags-same, put_agrees}

module _ {T A : Type 0} (kind : KindOf T A) (n : ℕ) where
  abbrev w : ℕ
  w = kind.WIDTH

  abbrev m : ℕ
  m = events n

  -- no lags, and every event at zero
  module _ (table : List (Option A)) (words : List ℕ) (totals : List (Option T)) (few : n ≤ most_stages) (emptied : table ≡ replicate (places n) None) (cleared : words ≡ replicate most_events 0) (zero : (v : ℕ) → v < m → meant kind totals v ≡ Some (zeros w)) where
    empty : (v u : ℕ) → v < m → u < m → plan_lags kind n table v u ≡ None
    empty v u v_in u_in = ap (option_map kind.amount) (ap (λ (t : List (Option A)). get_or t (place m v u) None) emptied ∙ get_or-replicate (places n) (place m v u) None None (place_below m v u v_in u_in))

    blank : (u : ℕ) → u < m → slice_index words u ≡ 0
    blank u u_in = ap (λ (ws : List ℕ). slice_index ws u) cleared ∙ get_or-replicate most_events u 0 0 (omega (arith, u_in, few))

    least_zero : LeastFrom w m (plan_lags kind n table) (everywhere w) (everywhere w)
    least_zero = record {
      under = λ x t. t.1;
      met = (λ v. zeros w, (record { wide = λ v v_in. length-zeros w; keeps = λ v u a v_in u_in e. absurd (some_none (sym e ∙ empty v u v_in u_in)) }, λ v v_in. NotBefore-same (zeros w) (zeros w) refl), λ v r v_in e. some_inj e);
      free = λ some e e_in h. absurd (some_none h);
    }

    pub zero_open : LeastFromZero kind n table words totals
    zero_open = record {
      standing = λ u u_in v small. (λ b. absurd (omega (arith, b, ap (λ (x : ℕ). bit_at x v) (blank u u_in), bit_at-zero v)), λ k. absurd (k.1 (empty v u k.0 u_in)));
      known = λ v v_in q. some_none (sym (zero v v_in) ∙ q);
      keeps = record { wide = λ v v_in. ap (λ o. length (total_of w o)) (zero v v_in) ∙ length-zeros w; keeps = λ v u a v_in u_in e. absurd (some_none (sym e ∙ empty v u v_in u_in)) };
      least = LeastFrom-alike w m (plan_lags kind n table) (everywhere w) (everywhere w) (meant kind totals) zero least_zero;
    }

  module _ (amount_wide : (lag : A) → length (kind.amount lag) ≡ w) (table : List (Option A)) (words : List ℕ) (first : List (Option T)) (h : LeastFromZero kind n table words first) where
    -- a lag more
    module _ (to from : ℕ) (lag : A) (full : length table ≡ m * m) (to_in : to < m) (from_in : from < m) (stood : (l : Row) → plan_lags kind n table to from ≡ Some l → NotBefore (kind.amount lag) l) (after : List (Option A)) (words_after : List ℕ) (totals : List (Option T)) (row row_after : List ℕ) where
      more : after ≡ set table (place m to from) (Some lag) → AsksMore w m (plan_lags kind n table) (plan_lags kind n after)
      more put x s =
          let agree : Agree m (plan_lags kind n after) (with_lag (plan_lags kind n table) to from (kind.amount lag)) = subst (λ (t : List (Option A)). Agree m (plan_lags kind n t) (with_lag (plan_lags kind n table) to from (kind.amount lag))) (sym put) (put_agrees m kind.amount table to from lag (kind.amount lag) full to_in from_in refl) in
          lag_asks_more w m (plan_lags kind n table) to from (kind.amount lag) (amount_wide lag) stood x (KeepsLags-same w m (plan_lags kind n after) (with_lag (plan_lags kind n table) to from (kind.amount lag)) agree x s)

      pub zero_put : (o : Option ℕ) → PutEnds kind n to from lag table after words words_after first totals row row_after o → MatchOption o (LeastFromZero kind n after words_after totals) (λ len. Unit {0})
      zero_put (Some len) p = tt
      zero_put None p = record {
        standing = p.standing;
        known = p.repaired.known;
        keeps = p.repaired.keeps;
        least = repaired_least w m (plan_lags kind n table) (plan_lags kind n after) (everywhere w) (meant kind first) (meant kind totals) (more p.put) h.known h.least p.repaired.least;
      }

    pub zero_room : ((lag : A) → Within lag_limit (kind.amount lag)) → n ≤ most_stages → LeavesRoom lag_limit m (meant kind first)
    zero_room amount_limit few = record {
      bound = 0 + m * lag_limit;
      within = repaired_inside lag_limit 0 w m (plan_lags kind n table) (everywhere w) (meant kind first) (omega arith) (lags_wide w kind.amount amount_wide m m table) (λ v u r v_in u_in e. WideRow-to w (everywhere w v) r e (everywhere_sized w m v v_in)) (λ v u a v_in u_in e. table_holds (Within lag_limit) kind.amount amount_limit m table v u a e) (λ v u r v_in u_in e. inside_to 0 (everywhere w v) r e (everywhere_inside w m v v_in)) (λ v v_in. some_none) h.known h.least;
      room = omega (arith, two_fit m (omega (arith, few)));
    }

  -- and so where a lag was put
  pub zero_leaves : ((lag : A) → length (kind.amount lag) ≡ w) → ((lag : A) → Within lag_limit (kind.amount lag)) → n ≤ most_stages → (table : List (Option A)) (words : List ℕ) (totals : List (Option T)) (o : Option ℕ) → MatchOption o (LeastFromZero kind n table words totals) (λ len. Unit {0}) → MatchOption o (LeavesRoom lag_limit m (meant kind totals)) (λ len. Unit {0})
  zero_leaves amount_wide amount_limit few table words totals None h = zero_room amount_wide table words totals h amount_limit few
  zero_leaves amount_wide amount_limit few table words totals (Some len) h = tt
