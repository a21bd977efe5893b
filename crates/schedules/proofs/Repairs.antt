-- Least times that are repaired where lags ask more stay the least, and inside the limits.
use Rattle.std.proofs.Common.{◌≡◌, ℕ, ◌+◌, ◌*◌, ◌<◌, ◌≤◌, true, false, ◌&&◌, eqb, ◌≢◌, ◌⊎◌, length, Some, None, Option, sym, refl, ap, ◌∙◌, subst, subst₂, ap₂, inl, inr, arith}
use Rattle.std.proofs.lemmas.Bool.{cond-true, cond-false, eqb-true, and_parts, cases_Bool}
use Rattle.rows.specs.Rows.{Row, plus, NotBefore}
use Rattle.rows.proofs.Sums.{length-plus, plus_comm}
use Rattle.rows.proofs.Order.{NotBefore-antisym, NotBefore-sum, NotBefore-trans}
use Rattle.schedules.specs.Plans.{Lags, Totals, AtLeast, AllKnown, with_lag, Wide, columns, Limited}
use Rattle.schedules.specs.Firsts.{NotEarlier, TimesFrom, LeastFrom, AsksMore}
use Rattle.schedules.specs.Rounds.{rounds}
use Rattle.schedules.proofs.Changes.{kept_settles}
use Rattle.schedules.proofs.Inside.{firsts_inside}
use Rattle.schedules.proofs.Least.{settled_least}
use Rattle.schedules.proofs.Optional.{AtLeast-trans}
use Rattle.schedules.proofs.Rounds.{WideTotals-from, rounds_known}

-- an amount that is not before another asks no less
amount_more : (w : ℕ) (y x a l : Row) → length y ≡ w → length x ≡ w → length a ≡ w → NotBefore a l → NotBefore y (plus x a) → NotBefore y (plus x l)
amount_more w y x a l wy wx wa h k =
    NotBefore-trans y (plus x a) (plus x l) (wy ∙ sym (length-plus x a w wx wa)) k (subst₂ (λ (p q : Row). NotBefore p q) (plus_comm a x) (plus_comm l x) (NotBefore-sum a l x h))

pub lag_asks_more : (w m : ℕ) (L : Lags) (v u : ℕ) (a : Row) → length a ≡ w → ((l : Row) → L v u ≡ Some l → NotBefore a l) → AsksMore w m L (with_lag L v u a)
lag_asks_more w m L v u a wa more x s = record { wide = s.wide; keeps = keeps }
  where
    keeps : (t e : ℕ) (l : Row) → t < m → e < m → L t e ≡ Some l → NotBefore (x t) (plus (x e) l)
    keeps t e l t_in e_in h = go (cases_Bool (eqb t v && eqb e u))
      where
        go : ((eqb t v && eqb e u) ≡ true) ⊎ ((eqb t v && eqb e u) ≡ false) → NotBefore (x t) (plus (x e) l)
        go (inl q) =
            let p = and_parts (eqb t v) (eqb e u) q in
            let here : L v u ≡ Some l = sym (ap₂ L (eqb-true t v p.0) (eqb-true e u p.1)) ∙ h in
            amount_more w (x t) (x e) a l (s.wide t t_in) (s.wide e e_in) wa (more l here) (s.keeps t e a t_in e_in (cond-true (eqb t v && eqb e u) (Some a) (L t e) q))
        go (inr q) = s.keeps t e l t_in e_in (cond-false (eqb t v && eqb e u) (Some a) (L t e) q ∙ h)

known_row : (o : Option Row) → o ≢ None → (r : Row) × (o ≡ Some r)
known_row None n = absurd (n refl)
known_row (Some r) n = (r, refl)

-- times from the least times from b are times from b

module _ (w m : ℕ) (L : Lags) (b S : Totals) (known : AllKnown m S) (least : LeastFrom w m L b S) where
  met_total : (v : ℕ) → v < m → S v ≡ Some (least.met.0 v)
  met_total v v_in =
      let r = known_row (S v) (known v v_in) in
      r.1 ∙ ap (λ (z : Row). Some z) (sym (least.met.2 v r.0 v_in r.1))

  met_after : (x : ℕ → Row) → ((v : ℕ) → v < m → length (x v) ≡ w) → NotEarlier m S x → NotEarlier m b x
  met_after x xw after v v_in =
      AtLeast-trans w (Some (x v)) (Some (least.met.0 v)) (b v) (xw v v_in) (least.met.1.0.wide v v_in) (subst (AtLeast (Some (x v))) (met_total v v_in) (after v v_in)) (least.met.1.1 v v_in)

  times_back : (M : Lags) (x : ℕ → Row) → TimesFrom w m M S x → TimesFrom w m M b x
  times_back M x t = (t.0, met_after x t.0.wide t.1)

pub repaired_least : (w m : ℕ) (L M : Lags) (b S R : Totals) → AsksMore w m L M → AllKnown m S → LeastFrom w m L b S → LeastFrom w m M S R → LeastFrom w m M b R
repaired_least w m L M b S R asks known least repaired = record {
  under = λ x t. repaired.under x (t.0, least.under x (asks x t.0, t.1));
  met = (repaired.met.0, times_back w m L b S known least M repaired.met.0 repaired.met.1, repaired.met.2);
  free = λ some e e_in h r wr.
      let x = repaired.free some e e_in h r wr in
      (x.0, times_back w m L b S known least M x.0 x.1, x.2, x.3);
}

-- the least times from known totals, where each has one, are those of rounds that settled, and so go
-- no further

known_once : (w m : ℕ) (L : Lags) (b S R : Totals) → AllKnown m S → AllKnown m R → LeastFrom w m L b S → LeastFrom w m L b R → (v : ℕ) → v < m → S v ≡ R v
known_once w m L b S R known also least other v v_in =
    let x = least.met in
    let y = other.met in
    let at = met_total w m L b S known least v v_in in
    let there = met_total w m L b R also other v v_in in
    let wide : length (x.0 v) ≡ length (y.0 v) = x.1.0.wide v v_in ∙ sym (y.1.0.wide v v_in) in
    let low : NotBefore (x.0 v) (y.0 v) = subst (AtLeast (Some (x.0 v))) there (other.under x.0 x.1 v v_in) in
    let high : NotBefore (y.0 v) (x.0 v) = subst (AtLeast (Some (y.0 v))) at (least.under y.0 y.1 v v_in) in
    at ∙ ap (λ (r : Row). Some r) (NotBefore-antisym (x.0 v) (y.0 v) wide low high) ∙ sym there

pub repaired_inside : (a c w m : ℕ) (L : Lags) (b S : Totals) → 1 ≤ m → Wide w m L → Wide w m (columns b) → Limited a m L → Limited c m (columns b) → AllKnown m b → AllKnown m S → LeastFrom w m L b S → Limited (c + m * a) m (columns S)
repaired_inside a c w m L b S first wide wide_b limited near known_b known least v u r v_in u_in e =
    let sized = WideTotals-from w m b wide_b in
    let x = least.met in
    let settled = kept_settles w m L wide first b sized x.0 x.1.0 m (omega arith) in
    let same = known_once w m L b S (rounds m L b m) known (λ t t_in. rounds_known w m L wide b sized m t t_in (known_b t t_in)) least (settled_least w m L wide b sized m settled x.0 x.1.0) v v_in in
    (firsts_inside a c m L b limited near).totals m v r v_in (sym same ∙ e)
