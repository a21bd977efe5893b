-- The earliest of the differences are the greatest starts in time.
use Rattle.std.proofs.Common.{◌≡◌, ℕ, ◌≤◌, ◌↔◌, length, Some, None, Option, sym, refl, ◌∙◌, subst, ap₂}
use Rattle.rows.specs.Extremes.{Among}
use Rattle.rows.specs.MaxPlus.{added, taken}
use Rattle.rows.specs.Rows.{Row, plus, minus, Before, NotBefore}
use Rattle.rows.proofs.Order.{NotBefore-plus, before_plus}
use Rattle.rows.proofs.Sums.{minus_plus, length-minus}
use Rattle.schedules.specs.Plans.{Lags, Totals, Wide, columns}
use Rattle.schedules.specs.Tables.{start, finish, events}
use Rattle.schedules.specs.Starts.{Allowed, InTime, Unbound, Backward}
use Rattle.rows.proofs.Options.{none_or_some, same_some, both_some}
use Rattle.schedules.proofs.Widths.{taken_wide, lag_wide, start_wide, finish_wide}

-- s + a is not after d exactly when s is not after d - a
pub not_after_sum : (w : ℕ) (d s a : Row) → length d ≡ w → length s ≡ w → length a ≡ w → NotBefore (minus d a) s → NotBefore d (plus s a)
not_after_sum w d s a wd ws wa h =
    subst (λ (r : Row). NotBefore r (plus s a)) (minus_plus d a (wd ∙ sym wa)) (NotBefore-plus (minus d a) s a (length-minus d a w wd wa ∙ sym wa) (ws ∙ sym wa) h)

pub not_after_difference : (w : ℕ) (d s a : Row) → length d ≡ w → length s ≡ w → length a ≡ w → NotBefore d (plus s a) → NotBefore (minus d a) s
not_after_difference w d s a wd ws wa h b =
    h (subst (λ (r : Row). Before r (plus s a)) (minus_plus d a (wd ∙ sym wa)) (before_plus (minus d a) s a (length-minus d a w wd wa ∙ sym wa) b))

module _ (w n : ℕ) (L : Lags) (d y : Totals)
    (wide_d : Wide w (events n) (columns d)) (wide_L : Wide w (events n) L)
    (due : (j : ℕ) → 1 ≤ j → j ≤ n → (r : Row) × (d (finish j) ≡ Some r))
    (starts : (k : ℕ) → 1 ≤ k → k ≤ n → Allowed n L d (start k) (y (start k))) where
  abbrev difference : ℕ → ℕ → Option Row
  difference k j = taken (d (finish j)) (L (finish j) (start k))

  wide_difference : (k j : ℕ) → k ≤ n → j ≤ n → (q : Row) → difference k j ≡ Some q → length q ≡ w
  wide_difference k j k_in j_in =
      taken_wide w (d (finish j)) (L (finish j) (start k)) (finish_wide w n d wide_d j j_in) (lag_wide w n L wide_L j k j_in k_in)

  -- what is written at a start, where something is
  bounded_by : (k : ℕ) (o : Option Row) → Allowed n L d (start k) o → (r : Row) → o ≡ Some r → Among n (difference k) r × ((q : Row) → Among n (difference k) q → NotBefore q r)
  bounded_by k None h r e = none_or_some r e
  bounded_by k (Some x) h r e =
      let same = same_some x r e in
      (subst (Among n (difference k)) same h.0, λ q a. subst (NotBefore q) same (h.1 q a))

  pub in_time : InTime n L d y
  in_time j k t s j1 jn k1 kn at_due at_end =
      let p = both_some plus (y (start k)) (L (finish j) (start k)) s at_end in
      let b = bounded_by k (y (start k)) (starts k k1 kn) p.0 p.2 in
      let among : Among n (difference k) (minus t p.1) = (j, j1, jn, ap₂ taken at_due p.3) in
      let wide_a = lag_wide w n L wide_L j k jn kn p.1 p.3 in
      let wide_s : length p.0 ≡ w = wide_difference k b.0.0 kn b.0.2 p.0 b.0.3 in
      subst (NotBefore t) p.4 (not_after_sum w t p.0 p.1 (finish_wide w n d wide_d j jn t at_due) wide_s wide_a (b.1 (minus t p.1) among))

  pub greatest : (x : Totals) → Wide w (events n) (columns x) → InTime n L d x → (k : ℕ) (r s : Row) → 1 ≤ k → k ≤ n → y (start k) ≡ Some r → x (start k) ≡ Some s → NotBefore r s
  greatest x wide_x timely k r s k1 kn at_y at_x =
      let b = (bounded_by k (y (start k)) (starts k k1 kn) r at_y).0 in
      let p = both_some minus (d (finish b.0)) (L (finish b.0) (start k)) r b.3 in
      let late = timely b.0 k p.0 (plus s p.1) b.1 b.2 k1 kn p.2 (ap₂ added at_x p.3) in
      subst (λ (q : Row). NotBefore q s) p.4 (not_after_difference w p.0 s p.1 (finish_wide w n d wide_d b.0 b.2 p.0 p.2) (start_wide w n x wide_x k kn s at_x) (lag_wide w n L wide_L b.0 k b.2 kn p.1 p.3) late)

  -- free exactly where no start-to-finish lag stands
  pub free : (k : ℕ) → 1 ≤ k → k ≤ n → (y (start k) ≡ None) ↔ Unbound n L (start k)
  free k k1 kn = (to (y (start k)) (starts k k1 kn), back (y (start k)) (starts k k1 kn))
    where
      lag_or_none : (j : ℕ) → 1 ≤ j → j ≤ n → (o : Option Row) → L (finish j) (start k) ≡ o → ((q : Row) → Among n (difference k) q → ⊥) → L (finish j) (start k) ≡ None
      lag_or_none j j1 jn None e h = e
      lag_or_none j j1 jn (Some a) e h = let t = due j j1 jn in absurd (h (minus t.0 a) (j, j1, jn, ap₂ taken t.1 e))

      to : (o : Option Row) → Allowed n L d (start k) o → o ≡ None → Unbound n L (start k)
      to None h e j j1 jn = lag_or_none j j1 jn (L (finish j) (start k)) refl h
      to (Some r) h e j j1 jn = none_or_some r (sym e)

      back : (o : Option Row) → Allowed n L d (start k) o → Unbound n L (start k) → o ≡ None
      back None h u = refl
      back (Some r) h u =
          let a = h.0 in
          let p = both_some minus (d (finish a.0)) (L (finish a.0) (start k)) r a.3 in
          none_or_some p.1 (sym (u a.0 a.1 a.2) ∙ p.3)

  pub backward : y 0 ≡ None → ((k : ℕ) → 1 ≤ k → k ≤ n → y (finish k) ≡ None) → Backward w n L d y
  backward opening finishes = record { opening = opening; finishes = finishes; in_time = in_time; greatest = greatest; free = free }
