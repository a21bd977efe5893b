-- Where only start-to-finish lags stand, the flow is the greatest mean of a cycle of their matrix,
-- rounded up and not below nought.
use Rattle.std.proofs.Common.{◌≡◌, ℕ, zero, suc, ◌-◌, ◌*◌, ◌/◌, ◌%◌, ◌<◌, ◌≤◌, ◌⊎◌, cond, eqb, List, [], ◌∷◌, length, ℤ, pos, ◌+ℤ◌, neg_ℤ, ◌≤ℤ◌, Some, sym, refl, ap, ◌∙◌, subst, subst₂, inl, inr, arith}
use Rattle.std.proofs.lemmas.Bool.{cond-true, cond-false, eq-eqb, ne_eqb}
use Rattle.std.proofs.lemmas.Int.{ints}
use Rattle.rows.specs.Algebra.{Matrix, power}
use Rattle.rows.specs.MaxPlus.{added}
use Rattle.rows.specs.Rows.{Row, zeros, plus, negated, NotBefore}
use Rattle.rows.proofs.Options.{none_or_some, same_some, both_some}
use Rattle.rows.proofs.Order.{before_irrefl}
use Rattle.rows.proofs.Sums.{length-plus}
use Rattle.schedules.specs.Flows.{WithinFlow, Flow}
use Rattle.schedules.specs.Minutes.{minutes, minute}
use Rattle.schedules.specs.Plans.{Lags, Totals, Wide, Schedule, Schedulable, Loop}
use Rattle.schedules.specs.Tables.{start, finish, events}
use Rattle.schedules.proofs.Chains.{chain_from}
use Rattle.schedules.proofs.Changes.{schedule_or_loop}
use Rattle.schedules.proofs.One.{minute_from, minute_to, minute-plus}
use Rattle.algebra.specs.Cycles.{lowered, NoCycleAfterZero, MeanWithin}
use Rattle.algebra.specs.Matrices.{lag_matrix, OnlyStartToFinish}
use Rattle.algebra.specs.Theorems.{FlowIsGreatestMean}
use Rattle.algebra.proofs.Answering.{lag_matrix_wide}
use Rattle.algebra.proofs.Cycles.{trace_under, diagonal_under, diagonal_rowed, diagonal_kept, loop_under, loop_short}

-- times of the stages as times of the events: each finish g after its start
event_time : ℕ → (ℕ → Row) → ℕ → Row
event_time g z v =
    cond (eqb v 0) (zeros 1) (cond (eqb (v % 2) 1) (z (v / 2)) (plus (z (v / 2 - 1)) (minutes g)))

event_opens : (g : ℕ) (z : ℕ → Row) → event_time g z 0 ≡ zeros 1
unfolding event_time
event_opens g z = refl

time_at_start : (g : ℕ) (z : ℕ → Row) (k : ℕ) → event_time g z (start (suc k)) ≡ z k
unfolding event_time
time_at_start g z k =
    let odd : start (suc k) % 2 ≡ 1 = omega arith in
    let half : start (suc k) / 2 ≡ k = omega arith in
    cond-false (eqb (start (suc k)) 0) (zeros 1) _ (ne_eqb (start (suc k)) 0 (λ e. omega arith)) ∙ cond-true (eqb (start (suc k) % 2) 1) (z (start (suc k) / 2)) _ (eq-eqb (start (suc k) % 2) 1 odd) ∙ ap z half

time_at_finish : (g : ℕ) (z : ℕ → Row) (k : ℕ) → event_time g z (finish (suc k)) ≡ plus (z k) (minutes g)
unfolding event_time
time_at_finish g z k =
    let even : finish (suc k) % 2 ≡ 0 = omega arith in
    let half : finish (suc k) / 2 - 1 ≡ k = omega arith in
    cond-false (eqb (finish (suc k)) 0) (zeros 1) _ (ne_eqb (finish (suc k)) 0 (λ e. omega arith)) ∙ cond-false (eqb (finish (suc k) % 2) 1) (z (finish (suc k) / 2)) _ (ne_eqb (finish (suc k) % 2) 1 (λ e. omega arith)) ∙ ap (λ (i : ℕ). plus (z i) (minutes g)) half

-- which event it is
data Event (v : ℕ) : Type 0 where
  opening : v ≡ 0 → Event v
  starts : (k : ℕ) → v ≡ start (suc k) → Event v
  ends : (k : ℕ) → v ≡ finish (suc k) → Event v

event : (v : ℕ) → Event v
event zero = opening refl
event (suc i) = go (i % 2) refl
  where
    go : (b : ℕ) → i % 2 ≡ b → Event (suc i)
    go zero e = starts (i / 2) (omega arith)
    go (suc b) e = ends (i / 2) (omega arith)

-- what stands in (-g) ⊗ A
lowered_from : (g : ℕ) (A : Matrix) (v u : ℕ) (a : Row) → ((b : Row) → A v u ≡ Some b → length b ≡ 1) → lowered g A v u ≡ Some a → (b : Row) × (A v u ≡ Some b) × (minute (Some a) ≡ neg_ℤ (pos g) +ℤ minute (Some b)) × (length a ≡ 1)
lowered_from g A v u a wide e =
    let t = both_some plus (Some (negated (minutes g))) (A v u) a e in
    let is : t.0 ≡ negated (minutes g) = sym (same_some (negated (minutes g)) t.0 t.2) in
    let w = wide t.1 t.3 in
    let sum : a ≡ plus (negated (minutes g)) t.1 = sym t.4 ∙ ap (λ (r : Row). plus r t.1) is in
    (t.1, t.3, ap (λ (r : Row). minute (Some r)) sum ∙ minute-plus (negated (minutes g)) t.1 refl w, ap length sum ∙ length-plus (negated (minutes g)) t.1 1 refl w)

-- at least q + b less g, and so g more at least q + b
raised : (g : ℕ) (p q b : Row) → length p ≡ 1 → length q ≡ 1 → length b ≡ 1 → NotBefore p (plus q (plus (negated (minutes g)) b)) → NotBefore (plus p (minutes g)) (plus q b)
raised g p q b wide_p wide_q wide_b h =
    let wide_low = length-plus (negated (minutes g)) b 1 refl wide_b in
    let k = minute_from p (plus q (plus (negated (minutes g)) b)) wide_p (length-plus q (plus (negated (minutes g)) b) 1 wide_q wide_low) h in
    let low = minute-plus (negated (minutes g)) b refl wide_b in
    let right = minute-plus q (plus (negated (minutes g)) b) wide_q wide_low in
    let given = minute-plus p (minutes g) wide_p refl in
    let sum = minute-plus q b wide_q wide_b in
    minute_to (plus p (minutes g)) (plus q b) (length-plus p (minutes g) 1 wide_p refl) (length-plus q b 1 wide_q wide_b) (omega (arith, ints))

module _ (n : ℕ) (L : Lags) (first : 1 ≤ n) (wide : Wide 1 (events n) L) (only : OnlyStartToFinish n L) where
  abbrev A : Matrix
  A = lag_matrix L

  wide_A : Wide 1 n A
  wide_A = lag_matrix_wide 1 n L wide

  low_from : (g v u : ℕ) (a : Row) → v < n → u < n → lowered g A v u ≡ Some a → (b : Row) × (A v u ≡ Some b) × (minute (Some a) ≡ neg_ℤ (pos g) +ℤ minute (Some b)) × (length a ≡ 1)
  low_from g v u a v_in u_in e = lowered_from g A v u a (λ b. wide_A v u b v_in u_in) e

  wide_low : (g : ℕ) → Wide 1 n (lowered g A)
  wide_low g v u a v_in u_in e = (low_from g v u a v_in u_in e).3

  -- the starts of a schedule within the flow g
  module _ (g : ℕ) (x : ℕ → Row) (h : WithinFlow n L g x) where
    abbrev z : ℕ → ℤ
    z k = minute (Some (x (start (suc k))))

    starts_keep : (v u : ℕ) (a : Row) → v < n → u < n → A v u ≡ Some a → (z u +ℤ minute (Some a)) ≤ℤ (z v +ℤ pos g)
    starts_keep v u a v_in u_in e =
        let wide_a = wide_A v u a v_in u_in e in
        let wide_u = h.schedule.keeping.wide (start (suc u)) (omega arith) in
        let wide_f = h.schedule.keeping.wide (finish (suc v)) (omega arith) in
        let wide_v = h.schedule.keeping.wide (start (suc v)) (omega arith) in
        let keeps = h.schedule.keeping.keeps (finish (suc v)) (start (suc u)) a (omega arith) (omega arith) e in
        let lag = minute_from (x (finish (suc v))) (plus (x (start (suc u))) a) wide_f (length-plus (x (start (suc u))) a 1 wide_u wide_a) keeps in
        let flow = minute_from (plus (x (start (suc v))) (minutes g)) (x (finish (suc v))) (length-plus (x (start (suc v))) (minutes g) 1 wide_v refl) wide_f (h.ends (suc v) (omega arith) (omega arith)) in
        let sum = minute-plus (x (start (suc u))) a wide_u wide_a in
        let end = minute-plus (x (start (suc v))) (minutes g) wide_v refl in
        omega (arith, ints)

    low_keep : (v u : ℕ) (a : Row) → v < n → u < n → lowered g A v u ≡ Some a → (z u +ℤ minute (Some a)) ≤ℤ (z v +ℤ pos 0)
    low_keep v u a v_in u_in e =
        let t = low_from g v u a v_in u_in e in
        let k = starts_keep v u t.0 v_in u_in t.1 in
        let m = t.2 in
        omega (arith, ints)

    no_cycle : NoCycleAfterZero n (lowered g A)
    no_cycle k low =
        let e : pos (k * 0) ≡ pos 0 = ap pos (omega arith) in
        trace_under n (power 1 n (lowered g A) k) (diagonal_rowed n (lowered g A) (wide_low g) k) (pos 0) (λ i i_in r q. subst (λ (y : ℤ). minute (Some r) ≤ℤ y) e (diagonal_kept n (lowered g A) (wide_low g) 0 z low_keep k i i_in r q))

    means_within : (k : ℕ) → 1 ≤ k → MeanWithin n A k g
    means_within k low = trace_under n (power 1 n A k) (diagonal_rowed n A wide_A k) (pos (k * g)) (diagonal_kept n A wide_A g z starts_keep k)

  -- times of the stages that keep (-g) ⊗ A make a schedule within g
  module _ (g : ℕ) (z : ℕ → Row) (s : Schedule 1 n (lowered g A) z) where
    within : WithinFlow n L g (event_time g z)
    within = record {
      schedule = record { keeping = record { wide = sized; keeps = keeps }; opens = event_opens g z };
      ends = ends_in;
    }
      where
        sized : (v : ℕ) → v < events n → length (event_time g z v) ≡ 1
        sized v v_in = go (event v)
          where
            go : Event v → length (event_time g z v) ≡ 1
            go (opening e) = ap (λ (i : ℕ). length (event_time g z i)) e ∙ ap length (event_opens g z)
            go (starts k e) = ap (λ (i : ℕ). length (event_time g z i)) e ∙ ap length (time_at_start g z k) ∙ s.keeping.wide k (omega arith)
            go (ends k e) = ap (λ (i : ℕ). length (event_time g z i)) e ∙ ap length (time_at_finish g z k) ∙ length-plus (z k) (minutes g) 1 (s.keeping.wide k (omega arith)) refl

        late : (j k : ℕ) (a : Row) → j < n → k < n → A j k ≡ Some a → NotBefore (plus (z j) (minutes g)) (plus (z k) a)
        late j k a j_in k_in e =
            let there : lowered g A j k ≡ Some (plus (negated (minutes g)) a) = ap (added (Some (negated (minutes g)))) e in
            raised g (z j) (z k) a (s.keeping.wide j j_in) (s.keeping.wide k k_in) (wide_A j k a j_in k_in e) (s.keeping.keeps j k (plus (negated (minutes g)) a) j_in k_in there)

        keeps : (v u : ℕ) (a : Row) → v < events n → u < events n → L v u ≡ Some a → NotBefore (event_time g z v) (plus (event_time g z u) a)
        keeps v u a v_in u_in e =
            let t = only v u v_in u_in (λ q. none_or_some a (sym q ∙ e)) in
            let at : A t.0 t.1 ≡ Some a = subst₂ (λ (i j : ℕ). L i j ≡ Some a) t.4 t.5 e in
            subst₂ (λ (p q : Row). NotBefore p (plus q a)) (sym (ap (event_time g z) t.4 ∙ time_at_finish g z t.0)) (sym (ap (event_time g z) t.5 ∙ time_at_start g z t.1)) (late t.0 t.1 a t.2 t.3 at)

        ends_in : (k : ℕ) → 1 ≤ k → k ≤ n → NotBefore (plus (event_time g z (start k)) (minutes g)) (event_time g z (finish k))
        ends_in zero low high = absurd (omega arith)
        ends_in (suc k) low high =
            subst₂ (λ (p q : Row). NotBefore (plus p (minutes g)) q) (sym (time_at_start g z k)) (sym (time_at_finish g z k)) (before_irrefl (plus (z k) (minutes g)))

  -- a number for which (-g) ⊗ A has no loop is not below the flow
  module _ (f : ℕ) (y : Totals) (flow : Flow n L f y) (g : ℕ) where
    not_below : ((e : ℕ) (es : List ℕ) → Loop 1 n (lowered g A) (e ∷ es) → ⊥) → f ≤ g
    not_below none = go (schedule_or_loop 1 n (lowered g A) (wide_low g) first)
      where
        go : Schedulable 1 n (lowered g A) ⊎ ((es : List ℕ) × Loop 1 n (lowered g A) es) → f ≤ g
        go (inl s) = flow.least g (event_time g s.0) (within g s.0 s.1)
        go (inr l) = at l.0 l.1
          where
            at : (es : List ℕ) → Loop 1 n (lowered g A) es → f ≤ g
            at [] k = absurd k
            at (e ∷ es) k = absurd (none e es k)

    least_cycle : NoCycleAfterZero n (lowered g A) → f ≤ g
    least_cycle h = not_below none
      where
        none : (e : ℕ) (es : List ℕ) → Loop 1 n (lowered g A) (e ∷ es) → ⊥
        none e es l =
            let t = loop_under n (lowered g A) (wide_low g) (lowered g A) (wide_low g) 0 (λ v u a v_in u_in q. (a, q, omega (arith, ints))) e es l in
            let d = diagonal_under n (power 1 n (lowered g A) (suc (length es))) (diagonal_rowed n (lowered g A) (wide_low g) (suc (length es))) (pos 0) (h (suc (length es)) (omega arith)) e (chain_from n (lowered g A) es e e l.2.0 l.2.1.0) t.0 t.1 in
            let over = t.2 in
            omega (arith, ints)

    least_mean : ((k : ℕ) → 1 ≤ k → k ≤ n → MeanWithin n A k g) → f ≤ g
    least_mean h = not_below none
      where
        related : (v u : ℕ) (a : Row) → v < n → u < n → lowered g A v u ≡ Some a → (b : Row) × (A v u ≡ Some b) × ((minute (Some a) +ℤ pos g) ≤ℤ minute (Some b))
        related v u a v_in u_in e =
            let t = low_from g v u a v_in u_in e in
            let m = t.2 in
            (t.0, t.1, omega (arith, ints))

        none : (e : ℕ) (es : List ℕ) → Loop 1 n (lowered g A) (e ∷ es) → ⊥
        none e es l =
            let t = loop_under n A wide_A (lowered g A) (wide_low g) g related e es l in
            let short = loop_short n (lowered g A) e es l in
            let d = diagonal_under n (power 1 n A (suc (length es))) (diagonal_rowed n A wide_A (suc (length es))) (pos (suc (length es) * g)) (h (suc (length es)) (omega arith) short) e (chain_from n (lowered g A) es e e l.2.0 l.2.1.0) t.0 t.1 in
            let over = t.2 in
            omega (arith, ints)

pub flow_greatest_mean : FlowIsGreatestMean
flow_greatest_mean n L f y first wide flow only = record {
  cycles = no_cycle n L first wide only f flow.reached.0 flow.reached.1;
  least = λ g. least_cycle n L first wide only f y flow g;
  means = means_within n L first wide only f flow.reached.0 flow.reached.1;
  least_mean = λ g. least_mean n L first wide only f y flow g;
}
