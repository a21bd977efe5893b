-- Times that keep the lags: the later of two, the earlier of two, and a common shift.
use Rattle.std.proofs.Common.{◌≡◌, ℕ, ◌≤◌, length, sym, ◌∙◌, subst, arith}
use Rattle.rows.specs.Rows.{Row, plus, minus, negated, NotBefore}
use Rattle.rows.proofs.Sums.{length-plus, length-negated, plus_swap, plus-negated}
use Rattle.rows.proofs.Order.{NotBefore-trans, NotBefore-sum}
use Rattle.schedules.specs.Plans.{Lags, Wide, KeepsLags, Schedule}
use Rattle.rows.specs.MaxPlus.{later_of, earlier_of}
use Rattle.rows.proofs.Tests.{later_left, later_right, later_both, earlier_left, earlier_right, earlier_both}

module _ (w m : ℕ) (L : Lags) (wide : Wide w m L) where
  -- all times shifted alike
  pub shifted_times : (x : ℕ → Row) (d : Row) → length d ≡ w → KeepsLags w m L x → KeepsLags w m L (λ v. plus (x v) d)
  shifted_times x d e s = record {
    wide = λ v v_in. length-plus (x v) d w (s.wide v v_in) e;
    keeps = λ v u a v_in u_in l. subst (λ (z : Row). NotBefore (plus (x v) d) z) (plus_swap (x u) a d) (NotBefore-sum (x v) (plus (x u) a) d (s.keeps v u a v_in u_in l));
  }

  -- shifted so that the opening is at zero
  pub opened : (x : ℕ → Row) → 1 ≤ m → KeepsLags w m L x → Schedule w m L (λ v. minus (x v) (x 0))
  opened x h s =
      record {
        keeping = shifted_times x (negated (x 0)) (length-negated (x 0) ∙ s.wide 0 (omega arith)) s;
        opens = plus-negated w (x 0) (s.wide 0 (omega arith));
      }

  pub later_times : (x y : ℕ → Row) → KeepsLags w m L x → KeepsLags w m L y → KeepsLags w m L (λ v. later_of (x v) (y v))
  later_times x y s t = record {
    wide = λ v v_in. later_both (λ (z : Row). length z ≡ w) (x v) (y v) (s.wide v v_in) (t.wide v v_in);
    keeps = λ v u a v_in u_in l.
        let both : length (later_of (x v) (y v)) ≡ w = later_both (λ (z : Row). length z ≡ w) (x v) (y v) (s.wide v v_in) (t.wide v v_in) in
        later_both (λ (z : Row). NotBefore (later_of (x v) (y v)) (plus z a)) (x u) (y u)
        (NotBefore-trans (later_of (x v) (y v)) (x v) (plus (x u) a) (both ∙ sym (s.wide v v_in)) (later_left (x v) (y v)) (s.keeps v u a v_in u_in l))
        (NotBefore-trans (later_of (x v) (y v)) (y v) (plus (y u) a) (both ∙ sym (t.wide v v_in)) (later_right (x v) (y v)) (t.keeps v u a v_in u_in l));
  }

  pub earlier_times : (x y : ℕ → Row) → KeepsLags w m L x → KeepsLags w m L y → KeepsLags w m L (λ v. earlier_of (x v) (y v))
  earlier_times x y s t = record {
    wide = λ v v_in. earlier_both (λ (z : Row). length z ≡ w) (x v) (y v) (s.wide v v_in) (t.wide v v_in);
    keeps = λ v u a v_in u_in l.
        let both : length (earlier_of (x u) (y u)) ≡ w = earlier_both (λ (z : Row). length z ≡ w) (x u) (y u) (s.wide u u_in) (t.wide u u_in) in
        let sum : Row = plus (earlier_of (x u) (y u)) a in
        let aw : length a ≡ w = wide v u a v_in u_in l in
        earlier_both (λ (z : Row). NotBefore z (plus (earlier_of (x u) (y u)) a)) (x v) (y v)
        (NotBefore-trans (x v) (plus (x u) a) sum (s.wide v v_in ∙ sym (length-plus (x u) a w (s.wide u u_in) aw)) (s.keeps v u a v_in u_in l) (NotBefore-sum (x u) (earlier_of (x u) (y u)) a (earlier_left (x u) (y u))))
        (NotBefore-trans (y v) (plus (y u) a) sum (t.wide v v_in ∙ sym (length-plus (y u) a w (t.wide u u_in) aw)) (t.keeps v u a v_in u_in l) (NotBefore-sum (y u) (earlier_of (x u) (y u)) a (earlier_right (x u) (y u))));
  }
