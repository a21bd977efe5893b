-- The schedules within a flow are those of the plan with the flow in its lags.
use Rattle.std.proofs.Common.{◌≡◌, ℕ, ◌+◌, ◌/◌, ◌%◌, ◌<◌, ◌≤◌, Bool, true, false, cond, length, Some, None, Option, sym, refl, ap, ◌∙◌, subst, subst₂, arith}
use Rattle.std.proofs.lemmas.Bool.Decides.{nat_tests}
use Rattle.std.proofs.lemmas.Int.{ints}
use Rattle.rows.specs.MaxPlus.{later, later_of}
use Rattle.rows.specs.Rows.{Row, plus, negated, NotBefore}
use Rattle.rows.proofs.Options.{none_or_some, same_some}
use Rattle.rows.proofs.Order.{before_irrefl, NotBefore-trans, NotBefore-sum}
use Rattle.rows.proofs.Sums.{length-plus, plus_comm}
use Rattle.rows.proofs.Tests.{later_left, later_right, later_both}
use Rattle.schedules.specs.Answers.{GreatestTime}
use Rattle.schedules.specs.Flows.{EndsWithin, back_over_stage, flow_lags, with_flow, WithinFlow, GreatestWithin}
use Rattle.schedules.specs.FlowTheorems.{FlowsAreLags}
use Rattle.schedules.specs.Minutes.{minutes}
use Rattle.schedules.specs.Plans.{Lags, Wide, Schedule}
use Rattle.schedules.specs.Tables.{start, finish, events}
use Rattle.schedules.proofs.One.{minute_from, minute_to, minute-plus}

-- the lags of a flow stand at the stages' own pairs

pub own_events : (v u : ℕ) → back_over_stage v u ≡ true → (v ≡ start (v / 2 + 1)) × (u ≡ finish (v / 2 + 1))
own_events v u e =
    let h : (v % 2 ≡ 1) × (u ≡ v + 1) = grind (arith, nat_tests) in
    let p : v % 2 ≡ 1 = h.0 in
    let q : u ≡ v + 1 = h.1 in
    (omega arith, omega arith)

own_pair : (v u : ℕ) → v % 2 ≡ 1 → u ≡ v + 1 → back_over_stage v u ≡ true
own_pair v u p q = grind (arith, nat_tests)

pub stage_own : (k : ℕ) → 1 ≤ k → back_over_stage (start k) (finish k) ≡ true
stage_own k h = own_pair (start k) (finish k) (omega arith) (omega arith)

cond_some : (b : Bool) (r q : Row) → cond b (Some r) None ≡ Some q → (b ≡ true) × (q ≡ r)
cond_some true r q e = (refl, same_some q r (sym e))
cond_some false r q e = none_or_some q e

pub added_some : (f v u : ℕ) (b : Row) → flow_lags f v u ≡ Some b → (back_over_stage v u ≡ true) × (b ≡ negated (minutes f))
added_some f v u b e = cond_some (back_over_stage v u) (negated (minutes f)) b e

pub added_own : (f v u : ℕ) → back_over_stage v u ≡ true → flow_lags f v u ≡ Some (negated (minutes f))
added_own f v u e = ap (λ (b : Bool). cond b (Some (negated (minutes f))) None) e

-- the later of two optional rows

pub later_either : (P : Row → Type 0) (o p : Option Row) (c : Row) → ((a : Row) → o ≡ Some a → P a) → ((b : Row) → p ≡ Some b → P b) → later o p ≡ Some c → P c
later_either P None p c f g e = g c e
later_either P (Some a) None c f g e = f c e
later_either P (Some a) (Some b) c f g e = subst P (same_some (later_of a b) c e) (later_both P a b (f a refl) (g b refl))

covers_left : (o p : Option Row) (a : Row) → o ≡ Some a → (c : Row) × (later o p ≡ Some c) × NotBefore c a
covers_left None p a e = none_or_some a e
covers_left (Some t) None a e = (t, refl, subst (λ (z : Row). NotBefore t z) (same_some t a e) (before_irrefl t))
covers_left (Some t) (Some b) a e = (later_of t b, refl, subst (λ (z : Row). NotBefore (later_of t b) z) (same_some t a e) (later_left t b))

covers_right : (o p : Option Row) (b : Row) → p ≡ Some b → (c : Row) × (later o p ≡ Some c) × NotBefore c b
covers_right None p b e = (b, e, before_irrefl b)
covers_right (Some t) None b e = none_or_some b e
covers_right (Some t) (Some s) b e = (later_of t s, refl, subst (λ (z : Row). NotBefore (later_of t s) z) (same_some s b e) (later_right t s))

-- what keeps a lag keeps one that is not after it
keeps_less : (t s c a : Row) → length t ≡ 1 → length s ≡ 1 → length c ≡ 1 → NotBefore t (plus s c) → NotBefore c a → NotBefore t (plus s a)
keeps_less t s c a p q r h k =
    NotBefore-trans t (plus s c) (plus s a) (p ∙ sym (length-plus s c 1 q r)) h (subst₂ NotBefore (plus_comm c s) (plus_comm a s) (NotBefore-sum c a s k))

-- at least s less f, and so s at most f after

slack_from : (f : ℕ) (r s : Row) → length r ≡ 1 → length s ≡ 1 → NotBefore r (plus s (negated (minutes f))) → NotBefore (plus r (minutes f)) s
slack_from f r s p q h =
    let k = minute_from r (plus s (negated (minutes f))) p (length-plus s (negated (minutes f)) 1 q refl) h in
    let taken = minute-plus s (negated (minutes f)) q refl in
    let given = minute-plus r (minutes f) p refl in
    minute_to (plus r (minutes f)) s (length-plus r (minutes f) 1 p refl) q (omega (arith, ints))

slack_to : (f : ℕ) (r s : Row) → length r ≡ 1 → length s ≡ 1 → NotBefore (plus r (minutes f)) s → NotBefore r (plus s (negated (minutes f)))
slack_to f r s p q h =
    let k = minute_from (plus r (minutes f)) s (length-plus r (minutes f) 1 p refl) q h in
    let taken = minute-plus s (negated (minutes f)) q refl in
    let given = minute-plus r (minutes f) p refl in
    minute_to r (plus s (negated (minutes f))) p (length-plus s (negated (minutes f)) 1 q refl) (omega (arith, ints))

module _ (n : ℕ) (L : Lags) (wide : Wide 1 (events n) L) (f : ℕ) where
  pub flow_wide : Wide 1 (events n) (with_flow f L)
  flow_wide v u a v_in u_in e =
      later_either (λ r. length r ≡ 1) (L v u) (flow_lags f v u) a (λ b h. wide v u b v_in u_in h) (λ b h. ap length (added_some f v u b h).1) e

  pub to_lags : (x : ℕ → Row) → WithinFlow n L f x → Schedule 1 (events n) (with_flow f L) x
  to_lags x h = record { keeping = record { wide = h.schedule.keeping.wide; keeps = keeps }; opens = h.schedule.opens }
    where
      own_keeps : (v u : ℕ) (b : Row) → v < events n → u < events n → flow_lags f v u ≡ Some b → NotBefore (x v) (plus (x u) b)
      own_keeps v u b v_in u_in e =
          let t = added_some f v u b e in
          let s = own_events v u t.0 in
          let p : v ≡ start (v / 2 + 1) = s.0 in
          let q : u ≡ finish (v / 2 + 1) = s.1 in
          let ends = subst₂ (λ (i j : ℕ). NotBefore (plus (x i) (minutes f)) (x j)) (sym p) (sym q) (h.ends (v / 2 + 1) (omega arith) (omega arith)) in
          subst (λ (r : Row). NotBefore (x v) (plus (x u) r)) (sym t.1) (slack_to f (x v) (x u) (h.schedule.keeping.wide v v_in) (h.schedule.keeping.wide u u_in) ends)

      keeps : (v u : ℕ) (a : Row) → v < events n → u < events n → with_flow f L v u ≡ Some a → NotBefore (x v) (plus (x u) a)
      keeps v u a v_in u_in e =
          later_either (λ r. NotBefore (x v) (plus (x u) r)) (L v u) (flow_lags f v u) a (λ b. h.schedule.keeping.keeps v u b v_in u_in) (λ b. own_keeps v u b v_in u_in) e

  pub from_lags : (x : ℕ → Row) → Schedule 1 (events n) (with_flow f L) x → WithinFlow n L f x
  from_lags x s = record { schedule = record { keeping = record { wide = s.keeping.wide; keeps = keeps }; opens = s.opens }; ends = ends }
    where
      less : (v u : ℕ) (a c : Row) → v < events n → u < events n → with_flow f L v u ≡ Some c → NotBefore c a → NotBefore (x v) (plus (x u) a)
      less v u a c v_in u_in e h =
          keeps_less (x v) (x u) c a (s.keeping.wide v v_in) (s.keeping.wide u u_in) (flow_wide v u c v_in u_in e) (s.keeping.keeps v u c v_in u_in e) h

      keeps : (v u : ℕ) (a : Row) → v < events n → u < events n → L v u ≡ Some a → NotBefore (x v) (plus (x u) a)
      keeps v u a v_in u_in e =
          let c = covers_left (L v u) (flow_lags f v u) a e in
          less v u a c.0 v_in u_in c.1 c.2

      ends : EndsWithin n f x
      ends k low high =
          let c = covers_right (L (start k) (finish k)) (flow_lags f (start k) (finish k)) (negated (minutes f)) (added_own f (start k) (finish k) (stage_own k low)) in
          slack_from f (x (start k)) (x (finish k)) (s.keeping.wide (start k) (omega arith)) (s.keeping.wide (finish k) (omega arith)) (less (start k) (finish k) (negated (minutes f)) c.0 (omega arith) (omega arith) c.1 c.2)

  pub greatest_to : (e : ℕ) (o : Option Row) → GreatestWithin n L f e o → GreatestTime 1 (events n) (with_flow f L) e o
  greatest_to e None h = λ r k. let t = h r k in (t.0, (to_lags t.0 t.1.0, t.1.1))
  greatest_to e (Some r) h = record {
    attained = (h.attained.0, (to_lags h.attained.0 h.attained.1.0, h.attained.1.1));
    greatest = λ x s. h.greatest x (from_lags x s);
  }

  pub greatest_from : (e : ℕ) (o : Option Row) → GreatestTime 1 (events n) (with_flow f L) e o → GreatestWithin n L f e o
  greatest_from e None h = λ r k. let t = h r k in (t.0, (from_lags t.0 t.1.0, t.1.1))
  greatest_from e (Some r) h = record {
    attained = (h.attained.0, (from_lags h.attained.0 h.attained.1.0, h.attained.1.1));
    greatest = λ x s. h.greatest x (to_lags x s);
  }

pub flows_lags : FlowsAreLags
flows_lags = record {
  schedule = λ n L f x wide. (to_lags n L wide f x, from_lags n L wide f x);
  flow = λ n L f y wide. (
    λ h. record {
      schedulable = (h.reached.0, to_lags n L wide f h.reached.0 h.reached.1);
      least = λ g s. h.least g s.0 (from_lags n L wide g s.0 s.1);
      times = λ e e_in. greatest_to n L wide f e (y e) (h.times e e_in);
    },
    λ t. record {
      reached = (t.schedulable.0, from_lags n L wide f t.schedulable.0 t.schedulable.1);
      least = λ g x h. t.least g (x, to_lags n L wide g x h);
      times = λ e e_in. greatest_from n L wide f e (y e) (t.times e e_in);
    },
  );
}
