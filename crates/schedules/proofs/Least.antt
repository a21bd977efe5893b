-- Totals settled from any first totals are the least of the times from them.
use Rattle.std.proofs.Common.{◌≡◌, ℕ, zero, suc, ◌<◌, ◌≤◌, ◌⊎◌, length, Some, None, Option, sym, ap, ◌∙◌, subst, inl, inr, arith}
use Rattle.std.proofs.lemmas.Bool.{cases_eq}
use Rattle.rows.specs.Rows.{Row, zeros, plus, minus, Before, NotBefore}
use Rattle.rows.proofs.Sums.{length-plus, length-minus, length-zeros}
use Rattle.rows.proofs.Order.{after_zeros, before_then, before_raised, NotBefore-trans}
use Rattle.schedules.specs.Plans.{Lags, AtLeast, Wide, KeepsLags, Totals}
use Rattle.rows.specs.MaxPlus.{later_of}
use Rattle.schedules.specs.Firsts.{TimesFrom, AtTotals, LeastFrom}
use Rattle.schedules.specs.Rounds.{rounds, Settled}
use Rattle.rows.proofs.Tests.{later_left, later_right, later_both}
use Rattle.schedules.proofs.Optional.{WideRow}
use Rattle.schedules.proofs.Rounds.{WideTotals, rounds_sized}
use Rattle.schedules.proofs.Pushed.{Far, pushed_row, pushed_from, gap_before}
use Rattle.schedules.proofs.Under.{rounds_under}

-- totals alike below m are the least alike
pub LeastFrom-alike : (w m : ℕ) (L : Lags) (b S R : Totals) → ((v : ℕ) → v < m → R v ≡ S v) → LeastFrom w m L b S → LeastFrom w m L b R
LeastFrom-alike w m L b S R same least = record {
  under = λ x t v v_in. subst (AtLeast (Some (x v))) (sym (same v v_in)) (least.under x t v v_in);
  met = (least.met.0, least.met.1, λ v r v_in e. least.met.2 v r v_in (sym (same v v_in) ∙ e));
  free = λ some e e_in h r wr.
      let x = least.free some e e_in (sym (same e e_in) ∙ h) r wr in
      (x.0, x.1, λ v t v_in q. x.2 v t v_in (sym (same v v_in) ∙ q), x.3);
}

-- how far a time stands above a total
gap : ℕ → Row → Option Row → Row
gap w y None = zeros w
gap w y (Some r) = minus y r

gap_wide : (w : ℕ) (y : Row) (o : Option Row) → length y ≡ w → WideRow w o → length (gap w y o) ≡ w
unfolding gap
gap_wide w y None e h = length-zeros w
gap_wide w y (Some r) e h = length-minus y r w e h

-- the greatest such distance of the first n events
spread : ℕ → (ℕ → Row) → Totals → ℕ → Row
spread w y S zero = zeros w
spread w y S (suc n) = later_of (spread w y S n) (gap w (y n) (S n))

module _ (w m : ℕ) (y : ℕ → Row) (S : Totals) (yw : (v : ℕ) → v < m → length (y v) ≡ w) (sized : WideTotals w m S) where
  spread_wide : (n : ℕ) → n ≤ m → length (spread w y S n) ≡ w
  unfolding spread
  spread_wide zero le = length-zeros w
  spread_wide (suc n) le = later_both (λ (z : Row). length z ≡ w) (spread w y S n) (gap w (y n) (S n)) (spread_wide n (omega arith)) (gap_wide w (y n) (S n) (yw n le) (sized n le))

  spread_covers : (n v : ℕ) (r : Row) → n ≤ m → v < n → S v ≡ Some r → NotBefore (spread w y S n) (minus (y v) r)
  unfolding spread gap
  spread_covers zero v r le h e = absurd (omega arith)
  spread_covers (suc n) v r le h e = go (cases_eq v n) (λ k. spread_covers n v r (omega arith) k e)
    where
      go : (v ≡ n) ⊎ (v ≡ n → ⊥) → (v < n → NotBefore (spread w y S n) (minus (y v) r)) → NotBefore (spread w y S (suc n)) (minus (y v) r)
      go (inl q) rest =
          subst (λ (z : Row). NotBefore (spread w y S (suc n)) z) (ap (gap w (y n)) (ap S (sym q) ∙ e) ∙ ap (λ (i : ℕ). minus (y i) r) (sym q)) (later_right (spread w y S n) (gap w (y n) (S n)))
      go (inr d) rest =
          NotBefore-trans (spread w y S (suc n)) (spread w y S n) (minus (y v) r) (spread_wide (suc n) le ∙ sym (spread_wide n (omega arith))) (later_left (spread w y S n) (gap w (y n) (S n))) (rest (omega arith))

module _ (w m : ℕ) (L : Lags) (wide : Wide w m L) (b : Totals) (sized : WideTotals w m b) (k : ℕ) (f : Settled m L b k) (y : ℕ → Row) (s : KeepsLags w m L y) where
  far_spread : Far m (rounds m L b k) y (spread w y (rounds m L b k) m)
  far_spread v r v_in e = spread_covers w m y (rounds m L b k) s.wide (rounds_sized w m L wide b sized k) m v r (omega arith) v_in e

  far_wide : length (spread w y (rounds m L b k) m) ≡ w
  far_wide = spread_wide w m y (rounds m L b k) s.wide (rounds_sized w m L wide b sized k) m (omega arith)

  settled_met : (x : ℕ → Row) × TimesFrom w m L b x × AtTotals m (rounds m L b k) x
  settled_met =
      let d = spread w y (rounds m L b k) m in
      (λ v. pushed_row (y v) d (rounds m L b k v), pushed_from w m L wide b sized k f y s d far_wide far_spread, λ v r v_in h. ap (pushed_row (y v) d) h)

  settled_lower : 1 ≤ w → (e : ℕ) → e < m → rounds m L b k e ≡ None → (r : Row) → length r ≡ w → (x : ℕ → Row) × TimesFrom w m L b x × AtTotals m (rounds m L b k) x × Before (x e) r
  settled_lower some e e_in h r wr =
      let near = spread w y (rounds m L b k) m in
      let one = after_zeros w some in
      let more = plus (minus (y e) r) one.0 in
      let d = later_of near more in
      let gw : length (minus (y e) r) ≡ w = length-minus (y e) r w (s.wide e e_in) wr in
      let mw : length more ≡ w = length-plus (minus (y e) r) one.0 w gw one.1 in
      let dw : length d ≡ w = later_both (λ (z : Row). length z ≡ w) near more far_wide mw in
      let far : Far m (rounds m L b k) y d = λ v t v_in q. NotBefore-trans d near (minus (y v) t) (dw ∙ sym far_wide) (later_left near more) (far_spread v t v_in q) in
      let past : Before (minus (y e) r) d = before_then (minus (y e) r) more d (dw ∙ sym mw) (before_raised w (minus (y e) r) one.0 gw one.2) (later_right near more) in
      (λ v. pushed_row (y v) d (rounds m L b k v), pushed_from w m L wide b sized k f y s d dw far, λ v t v_in q. ap (pushed_row (y v) d) q, subst (λ (o : Option Row). Before (pushed_row (y e) d o) r) (sym h) (gap_before w (y e) r d (s.wide e e_in) wr dw past))

  pub settled_least : LeastFrom w m L b (rounds m L b k)
  settled_least = record {
    under = λ x t. rounds_under w m L wide x t.0 b t.1 k;
    met = settled_met;
    free = settled_lower;
  }

  -- so are totals that are those of round k
  pub settled_least_alike : (R : Totals) → ((v : ℕ) → v < m → R v ≡ rounds m L b k v) → LeastFrom w m L b R
  settled_least_alike R same = LeastFrom-alike w m L b (rounds m L b k) R same settled_least
