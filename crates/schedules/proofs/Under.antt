-- No schedule has an event before its total.
use Rattle.std.proofs.Common.{◌≡◌, ℕ, zero, suc, ◌<◌, ◌≤◌, Some, None, Option, sym, refl, ap, ◌∙◌, subst, arith}
use Rattle.rows.specs.Rows.{Row, zeros, plus}
use Rattle.rows.proofs.Sums.{length-plus, length-zeros}
use Rattle.rows.proofs.Order.{NotBefore-sum, NotBefore-trans, NotBefore-same, NotBefore-antisym}
use Rattle.schedules.specs.Plans.{Lags, Wide, KeepsLags, Schedule, Totals, AtLeast}
use Rattle.rows.specs.MaxPlus.{added}
use Rattle.schedules.specs.Rounds.{into, rounds, opening}
use Rattle.schedules.specs.Firsts.{NotEarlier}
use Rattle.schedules.proofs.Optional.{WideRow, later_under}
use Rattle.schedules.proofs.Joined.{folded_holds}
use Rattle.schedules.proofs.Rounds.{rounds_sized, opening_sized, rounds_mono}

module _ (w m : ℕ) (L : Lags) (wide : Wide w m L) (x : ℕ → Row) (s : KeepsLags w m L x) where
  after_under : (v u : ℕ) → v < m → u < m → (t l : Option Row) → L v u ≡ l → AtLeast (Some (x u)) t → AtLeast (Some (x v)) (added t l)
  after_under v u v_in u_in None l e h = tt
  after_under v u v_in u_in (Some t) None e h = tt
  after_under v u v_in u_in (Some t) (Some a) e h =
      NotBefore-trans (x v) (plus (x u) a) (plus t a) (s.wide v v_in ∙ sym (length-plus (x u) a w (s.wide u u_in) (wide v u a v_in u_in e))) (s.keeps v u a v_in u_in e) (NotBefore-sum (x u) t a h)

  into_under : (S : Totals) → NotEarlier m S x → (v n : ℕ) → v < m → n ≤ m → AtLeast (Some (x v)) (into L S v n)
  into_under S f v n v_in le =
      folded_holds (AtLeast (Some (x v))) (later_under (Some (x v))) (S v) n (λ u. added (S u) (L v u)) (f v v_in) (λ u h. after_under v u v_in (omega arith) (S u) (L v u) refl (f u (omega arith)))

  pub rounds_under : (S : Totals) → NotEarlier m S x → (k : ℕ) → NotEarlier m (rounds m L S k) x
  rounds_under S f zero v v_in = f v v_in
  rounds_under S f (suc k) v v_in = into_under (rounds m L S k) (rounds_under S f k) v m v_in (omega arith)

-- a schedule is times from the opening alone
pub after_opening : (w m : ℕ) (L : Lags) (x : ℕ → Row) → Schedule w m L x → NotEarlier m (opening w) x
after_opening w m L x s zero h = NotBefore-same (x 0) (zeros w) s.opens
after_opening w m L x s (suc v) h = tt

module _ (w m : ℕ) (L : Lags) (wide : Wide w m L) (first : 1 ≤ m) (k : ℕ) where
  -- no schedule has an event before its total
  totals_under : (x : ℕ → Row) → Schedule w m L x → NotEarlier m (rounds m L (opening w) k) x
  totals_under x s = rounds_under w m L wide x s.keeping (opening w) (after_opening w m L x s) k

  -- so the opening stays at zero
  pub opening_stays : (x : ℕ → Row) → Schedule w m L x → rounds m L (opening w) k 0 ≡ Some (zeros w)
  opening_stays x s = go (rounds m L (opening w) k 0) (rounds_sized w m L wide (opening w) (opening_sized w m) k 0 first) (rounds_mono w m L wide (opening w) (opening_sized w m) 0 k 0 first (omega arith)) (subst (λ (t : Row). AtLeast (Some t) (rounds m L (opening w) k 0)) s.opens (totals_under x s 0 first))
    where
      go : (o : Option Row) → WideRow w o → AtLeast o (Some (zeros w)) → AtLeast (Some (zeros w)) o → o ≡ Some (zeros w)
      go None d h n = absurd h
      go (Some r) d h n = ap (λ (t : Row). Some t) (NotBefore-antisym r (zeros w) (d ∙ sym (length-zeros w)) h n)
