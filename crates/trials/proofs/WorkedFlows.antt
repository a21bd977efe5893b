-- Worked flows: a schedule and the latest times are computed, and a chain of lags over the stages
-- refutes less.
use Rattle.std.proofs.Common.{◌≡◌, ℕ, zero, suc, ◌-◌, ◌<◌, ◌≤◌, Bool, true, false, not, ◌&&◌, ◌==◌, cond, ◌⊎◌, List, [], ◌∷◌, length, ℤ, pos, ◌+ℤ◌, ◌≤ℤ◌, Some, None, Option, slice_index_or, sym, refl, ap, ◌∙◌, subst, inl, inr, arith}
use Rattle.std.proofs.lemmas.Bool.{cases_eq, false≢true}
use Rattle.std.proofs.lemmas.Int.{ints}
use Rattle.std.specs.Option.{option_map}
use Rattle.rows.specs.MaxPlus.{before}
use Rattle.rows.specs.Rows.{Row, zeros, plus, negated, NotBefore}
use Rattle.rows.proofs.Options.{none_or_some, same_some}
use Rattle.rows.proofs.Order.{before_irrefl, before_raised}
use Rattle.rows.proofs.Sums.{plus-zeros, length-plus}
use Rattle.rows.proofs.Tests.{before_false}
use Rattle.schedules.specs.Answers.{GreatestTime}
use Rattle.schedules.specs.Flows.{with_flow, WithinFlow, GreatestWithin, Flow}
use Rattle.schedules.specs.Minutes.{minutes, minute}
use Rattle.schedules.specs.Plans.{Lags, Totals, Wide, Schedule, Schedulable, reversed}
use Rattle.schedules.specs.Rounds.{opening, rounds, Settled}
use Rattle.schedules.specs.Tables.{start, finish, events}
use Rattle.schedules.proofs.Changes.{opening_settles}
use Rattle.schedules.proofs.Flows.{flow_wide, from_lags, greatest_from}
use Rattle.schedules.proofs.Latest.{settled_latest, settled_free_above}
use Rattle.schedules.proofs.Mirrored.{Wide-reversed, mirrored_schedulable}
use Rattle.schedules.proofs.One.{minute_from}
use Rattle.trials.specs.WorkedFlows.{laid, timed, two_rows, three_rows, two_stages, WorkedFlows}

-- every stage of an empty plan at one time

all_at : Row → ℕ → Row
all_at r zero = zeros 1
all_at r (suc v) = r

all_at_later : (r : Row) (v : ℕ) → 1 ≤ v → all_at r v ≡ r
unfolding all_at
all_at_later r zero h = absurd (omega arith)
all_at_later r (suc v) h = refl

all_within : (n : ℕ) (r : Row) → length r ≡ 1 → WithinFlow n (laid []) 0 (all_at r)
unfolding all_at
all_within n r e = record {
  schedule = record { keeping = record { wide = wide; keeps = λ v u a v_in u_in h. none_or_some a h }; opens = refl };
  ends = λ k low high. rw (all_at_later r (start k) (omega arith), all_at_later r (finish k) (omega arith), plus-zeros 1 r e) (before_irrefl r);
}
  where
    wide : (v : ℕ) → v < events n → length (all_at r v) ≡ 1
    wide zero h = refl
    wide (suc v) h = e

none_times : (n e : ℕ) → GreatestWithin n (laid []) 0 e (opening 1 e)
unfolding all_at
none_times n zero = record {
  attained = (all_at (zeros 1), (all_within n (zeros 1) refl, refl));
  greatest = λ x h. subst (NotBefore (zeros 1)) (sym h.schedule.opens) (before_irrefl (zeros 1));
}
none_times n (suc e) = λ r h. (all_at (plus r (minutes 1)), (all_within n (plus r (minutes 1)) (length-plus r (minutes 1) 1 h refl), before_raised 1 r (minutes 1) h (inl (omega (arith, ints)))))

none_flow : (n : ℕ) → Flow n (laid []) 0 (opening 1)
none_flow n = record {
  reached = (all_at (zeros 1), all_within n (zeros 1) refl);
  least = λ g x h. omega arith;
  times = λ e e_in. none_times n e;
}

-- what is true of each number below another

all_below : ℕ → (ℕ → Bool) → Bool
all_below zero p = true
all_below (suc n) p = p n && all_below n p

both_true : (a b : Bool) → a && b ≡ true → (a ≡ true) × (b ≡ true)
both_true true b e = (refl, e)
both_true false b e = absurd (false≢true e)

each_below : (n : ℕ) (p : ℕ → Bool) (v : ℕ) → all_below n p ≡ true → v < n → p v ≡ true
unfolding all_below
each_below zero p v e h = absurd (omega arith)
each_below (suc n) p v e h = go (cases_eq v n) (both_true (p n) (all_below n p) e) (λ t d. each_below n p v t (omega arith))
  where
    go : (v ≡ n) ⊎ (v ≡ n → ⊥) → (p n ≡ true) × (all_below n p ≡ true) → (all_below n p ≡ true → (v ≡ n → ⊥) → p v ≡ true) → p v ≡ true
    go (inl s) t rest = ap p s ∙ t.0
    go (inr d) t rest = rest t.1 d

-- what totals are below a number, last first
below : ℕ → Totals → List (Option Row)
below zero x = []
below (suc n) x = x n ∷ below n x

same_below : (n : ℕ) (x y : Totals) (e : ℕ) → below n x ≡ below n y → e < n → x e ≡ y e
unfolding below
same_below zero x y e h e_in = absurd (omega arith)
same_below (suc n) x y e h e_in =
    let last : x n ≡ y n = cc in
    let rest : below n x ≡ below n y = cc in
    go (cases_eq e n) last rest (λ t d. same_below n x y e t (omega arith))
  where
    go : (e ≡ n) ⊎ (e ≡ n → ⊥) → x n ≡ y n → below n x ≡ below n y → (below n x ≡ below n y → (e ≡ n → ⊥) → x e ≡ y e) → x e ≡ y e
    go (inl s) p q rest = ap x s ∙ p ∙ sym (ap y s)
    go (inr d) p q rest = rest q d

-- whether times keep lags

keeps_lag : Row → Row → Option Row → Bool
keeps_lag p q None = true
keeps_lag p q (Some a) = not (before p (plus q a))

not_true : (b : Bool) → not b ≡ true → b ≡ false
not_true true e = absurd (false≢true e)
not_true false e = refl

kept_lag : (p q : Row) (o : Option Row) (a : Row) → keeps_lag p q o ≡ true → o ≡ Some a → NotBefore p (plus q a)
unfolding keeps_lag
kept_lag p q None a h e = none_or_some a e
kept_lag p q (Some b) a h e = subst (λ (r : Row). NotBefore p (plus q r)) (same_some b a e) (before_false p (plus q b) (not_true (before p (plus q b)) h))

keeps_lags : ℕ → Lags → (ℕ → Row) → Bool
keeps_lags m L x = all_below m (λ v. all_below m (λ u. keeps_lag (x v) (x u) (L v u)))

kept_lags : (m : ℕ) (L : Lags) (x : ℕ → Row) → keeps_lags m L x ≡ true → (v u : ℕ) (a : Row) → v < m → u < m → L v u ≡ Some a → NotBefore (x v) (plus (x u) a)
unfolding keeps_lags
kept_lags m L x h v u a v_in u_in e =
    kept_lag (x v) (x u) (L v u) a (each_below m (λ u. keeps_lag (x v) (x u) (L v u)) u (each_below m (λ v. all_below m (λ u. keeps_lag (x v) (x u) (L v u))) v h v_in) u_in) e

-- the greatest times, computed
greatest_computed : (w m : ℕ) (L : Lags) → Wide w m L → 1 ≤ w → 1 ≤ m → Schedulable w m L → (e : ℕ) → e < m → GreatestTime w m L e (option_map negated (rounds m (reversed L) (opening w) (m - 1) e))
greatest_computed w m L wide some first s e e_in = go (rounds m (reversed L) (opening w) (m - 1) e) refl
  where
    settled : Settled m (reversed L) (opening w) (m - 1)
    settled = opening_settles w m (reversed L) (Wide-reversed w m L wide) first ((mirrored_schedulable w m L wide).0 s) (m - 1) (omega arith)

    go : (o : Option Row) → rounds m (reversed L) (opening w) (m - 1) e ≡ o → GreatestTime w m L e (option_map negated o)
    go None q = settled_free_above w m L wide first (m - 1) settled some s e e_in q
    go (Some r) q = settled_latest w m L wide first (m - 1) settled s e r e_in q

-- the lags listed have one part
laid_wide : (m : ℕ) (ts : List (ℕ × ℕ × ℤ)) → Wide 1 m (laid ts)
laid_wide m [] v u a v_in u_in e = none_or_some a e
laid_wide m (t ∷ ts) v u a v_in u_in e = go (v == t.0 && u == t.1) (laid_wide m ts v u a v_in u_in) e
  where
    go : (b : Bool) → (laid ts v u ≡ Some a → length a ≡ 1) → cond b (Some (t.2 ∷ [])) (laid ts v u) ≡ Some a → length a ≡ 1
    go true f h = ap length (sym (same_some (t.2 ∷ []) a h))
    go false f h = f h

-- the minutes listed as times
timed_row : List ℤ → ℕ → Row
timed_row zs v = slice_index_or zs v (pos 0) ∷ []

-- Times that keep the lags within f, no schedule within less, and the rounds of the reversed plan.
module _ (n : ℕ) (ts : List (ℕ × ℕ × ℤ)) (f : ℕ) where
  latest_computed : Totals
  latest_computed e = option_map negated (rounds (events n) (reversed (with_flow f (laid ts))) (opening 1) (events n - 1) e)

  computed : (zs : List ℤ) (y : Totals) → timed_row zs 0 ≡ zeros 1 → keeps_lags (events n) (with_flow f (laid ts)) (timed_row zs) ≡ true → below (events n) latest_computed ≡ below (events n) y → ((g : ℕ) (x : ℕ → Row) → WithinFlow n (laid ts) g x → f ≤ g) → Flow n (laid ts) f y
  unfolding latest_computed timed_row
  computed zs y opens kept latest least = record {
    reached = (timed_row zs, from_lags n (laid ts) wide f (timed_row zs) scheduled);
    least = least;
    times = λ e e_in. greatest_from n (laid ts) wide f e (y e) (subst (GreatestTime 1 (events n) (with_flow f (laid ts)) e) (same_below (events n) latest_computed y e latest e_in) (greatest_computed 1 (events n) (with_flow f (laid ts)) (flow_wide n (laid ts) wide f) (omega arith) (omega arith) (timed_row zs, scheduled) e e_in));
  }
    where
      wide : Wide 1 (events n) (laid ts)
      wide = laid_wide (events n) ts

      scheduled : Schedule 1 (events n) (with_flow f (laid ts)) (timed_row zs)
      scheduled = record {
        keeping = record { wide = λ v h. refl; keeps = λ v u a. kept_lags (events n) (with_flow f (laid ts)) (timed_row zs) kept v u a };
        opens = opens;
      }

-- what a lag, and the end of a stage, say of minutes

minute_plus : (r : Row) (a : ℤ) → length r ≡ 1 → minute (Some (plus r (a ∷ []))) ≡ minute (Some r) +ℤ a
minute_plus [] a e = absurd (omega arith)
minute_plus (z ∷ r) a e = refl

module _ (n : ℕ) (L : Lags) (g : ℕ) (x : ℕ → Row) (h : WithinFlow n L g x) where
  asks : (v u : ℕ) (a : ℤ) → v < events n → u < events n → L v u ≡ Some (a ∷ []) → (minute (Some (x u)) +ℤ a) ≤ℤ minute (Some (x v))
  asks v u a v_in u_in e =
      let s = h.schedule.keeping in
      subst (λ (z : ℤ). z ≤ℤ minute (Some (x v))) (minute_plus (x u) a (s.wide u u_in)) (minute_from (x v) (plus (x u) (a ∷ [])) (s.wide v v_in) (length-plus (x u) (a ∷ []) 1 (s.wide u u_in) refl) (s.keeps v u (a ∷ []) v_in u_in e))

  ends : (k : ℕ) → 1 ≤ k → k ≤ n → minute (Some (x (finish k))) ≤ℤ (minute (Some (x (start k))) +ℤ pos g)
  ends k low high =
      let s = h.schedule.keeping in
      let from = s.wide (start k) (omega arith) in
      subst (λ (z : ℤ). minute (Some (x (finish k))) ≤ℤ z) (minute_plus (x (start k)) (pos g) from) (minute_from (plus (x (start k)) (minutes g)) (x (finish k)) (length-plus (x (start k)) (minutes g) 1 from refl) (s.wide (finish k) (omega arith)) (h.ends k low high))

-- each stage to the other and back adds up to 7 over two stages
two_least : (g : ℕ) (x : ℕ → Row) → WithinFlow 2 (laid two_rows) g x → 4 ≤ g
two_least g x h =
    let a = asks 2 (laid two_rows) g x h 2 3 (pos 4) (omega arith) (omega arith) refl in
    let b = asks 2 (laid two_rows) g x h 4 1 (pos 3) (omega arith) (omega arith) refl in
    let c = ends 2 (laid two_rows) g x h 1 (omega arith) (omega arith) in
    let d = ends 2 (laid two_rows) g x h 2 (omega arith) (omega arith) in
    omega (arith, ints)

-- round stages 1, 2 and 3 the lags add up to 12
three_least : (g : ℕ) (x : ℕ → Row) → WithinFlow 3 (laid three_rows) g x → 4 ≤ g
three_least g x h =
    let a = asks 3 (laid three_rows) g x h 2 3 (pos 4) (omega arith) (omega arith) refl in
    let b = asks 3 (laid three_rows) g x h 4 5 (pos 5) (omega arith) (omega arith) refl in
    let c = asks 3 (laid three_rows) g x h 6 1 (pos 3) (omega arith) (omega arith) refl in
    let d = ends 3 (laid three_rows) g x h 1 (omega arith) (omega arith) in
    let e = ends 3 (laid three_rows) g x h 2 (omega arith) (omega arith) in
    let f = ends 3 (laid three_rows) g x h 3 (omega arith) (omega arith) in
    omega (arith, ints)

-- stage 1 lasts as long
stages_least : (g : ℕ) (x : ℕ → Row) → WithinFlow 2 (laid two_stages) g x → 120 ≤ g
stages_least g x h =
    let a = asks 2 (laid two_stages) g x h 2 1 (pos 120) (omega arith) (omega arith) refl in
    let b = ends 2 (laid two_stages) g x h 1 (omega arith) (omega arith) in
    omega (arith, ints)

two_flow : Flow 2 (laid two_rows) 4 (opening 1)
unfolding all_below keeps_lag keeps_lags below latest_computed timed_row
two_flow = computed 2 two_rows 4 (pos 0 ∷ pos 0 ∷ pos 4 ∷ pos 0 ∷ pos 3 ∷ []) (opening 1) refl refl refl two_least

three_flow : Flow 3 (laid three_rows) 4 (timed (pos 0 ∷ pos 4 ∷ pos 8 ∷ pos 4 ∷ pos 8 ∷ pos 3 ∷ pos 7 ∷ []))
unfolding all_below keeps_lag keeps_lags below latest_computed timed_row
three_flow = computed 3 three_rows 4 (pos 0 ∷ pos 4 ∷ pos 8 ∷ pos 4 ∷ pos 8 ∷ pos 3 ∷ pos 7 ∷ []) (timed (pos 0 ∷ pos 4 ∷ pos 8 ∷ pos 4 ∷ pos 8 ∷ pos 3 ∷ pos 7 ∷ [])) refl refl refl three_least

stages_flow : Flow 2 (laid two_stages) 120 (timed (pos 0 ∷ pos 135 ∷ pos 255 ∷ pos 210 ∷ pos 300 ∷ []))
unfolding all_below keeps_lag keeps_lags below latest_computed timed_row
stages_flow = computed 2 two_stages 120 (pos 0 ∷ pos 135 ∷ pos 255 ∷ pos 210 ∷ pos 300 ∷ []) (timed (pos 0 ∷ pos 135 ∷ pos 255 ∷ pos 210 ∷ pos 300 ∷ [])) refl refl refl stages_least

pub worked_flows : WorkedFlows
worked_flows = record { none = none_flow; two = two_flow; three = three_flow; stages = stages_flow }
