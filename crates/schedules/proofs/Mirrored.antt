-- The mirrored plan: lags the other way round and times with every sign changed.
use Rattle.std.proofs.Common.{◌≡◌, ℕ, ◌↔◌, List, [], ◌∷◌, reverse, length, sym, ap, ◌∙◌, subst, subst₂}
use mathlib.Core.List.{reverse-cons}
use mathlib.Core.Path.{fun_ext}
use Rattle.rows.specs.Rows.{Row, plus, negated, Before, NotBefore}
use Rattle.rows.proofs.Sums.{length-negated, negated-negated, negated-zeros, negated-plus, plus_comm, minus_plus}
use Rattle.rows.proofs.Order.{before_negated, NotBefore-negated, NotBefore-sum}
use Rattle.schedules.specs.Plans.{Lags, Wide, Schedule, Schedulable, Earliest, FreeBelow, Latest, FreeAbove, Chain, Loop, reversed}
use Rattle.schedules.proofs.Chains.{chain_from}
use Rattle.schedules.proofs.Members.{Distinct-reverse, AllAbove-reverse}
use Rattle.schedules.proofs.Rotation.{Chain-join}

pub Wide-reversed : (w m : ℕ) (L : Lags) → Wide w m L → Wide w m (reversed L)
Wide-reversed w m L wide v u a v_in u_in e = wide u v a u_in v_in e

-- y at least a after x, and so the opposite of x at least a after the opposite of y
mirrored_lag : (x y a : Row) → length x ≡ length a → NotBefore y (plus x a) → NotBefore (negated x) (plus (negated y) a)
mirrored_lag x y a e h =
    subst (λ (z : Row). NotBefore z (plus (negated y) a)) back (NotBefore-sum (negated (plus x a)) (negated y) a (NotBefore-negated y (plus x a) h))
  where
    back : plus (negated (plus x a)) a ≡ negated x
    back = ap (λ (z : Row). plus z a) (negated-plus x a) ∙ minus_plus (negated x) a (length-negated x ∙ e)

module _ (w m : ℕ) where
  pub mirrored : (L : Lags) → Wide w m L → (x : ℕ → Row) → Schedule w m L x → Schedule w m (reversed L) (λ v. negated (x v))
  mirrored L wide x s = record {
    keeping = record {
      wide = λ v v_in. length-negated (x v) ∙ s.keeping.wide v v_in;
      keeps = λ v u a v_in u_in e. mirrored_lag (x v) (x u) a (s.keeping.wide v v_in ∙ sym (wide u v a u_in v_in e)) (s.keeping.keeps u v a u_in v_in e);
    };
    opens = ap negated s.opens ∙ negated-zeros w;
  }

  module _ (L : Lags) (wide : Wide w m L) where
    pub mirrored_back : (x : ℕ → Row) → Schedule w m (reversed L) x → Schedule w m L (λ v. negated (x v))
    mirrored_back x s = mirrored (reversed L) (Wide-reversed w m L wide) x s

    pub mirrored_from : (x : ℕ → Row) → Schedule w m (reversed L) (λ v. negated (x v)) → Schedule w m L x
    mirrored_from x s = subst (Schedule w m L) (fun_ext (λ v. negated-negated (x v))) (mirrored_back (λ v. negated (x v)) s)

    pub mirrored_schedule : (x : ℕ → Row) → Schedule w m L x ↔ Schedule w m (reversed L) (λ v. negated (x v))
    mirrored_schedule x = (mirrored L wide x, mirrored_from x)

    pub mirrored_schedulable : Schedulable w m L ↔ Schedulable w m (reversed L)
    mirrored_schedulable = (λ p. (λ v. negated (p.0 v), mirrored L wide p.0 p.1), λ p. (λ v. negated (p.0 v), mirrored_back p.0 p.1))

    pub latest_mirrored : (e : ℕ) (r : Row) → Latest w m L e r → Earliest w m (reversed L) e (negated r)
    latest_mirrored e r t = record {
      attained = (λ v. negated (t.attained.0 v), (mirrored L wide t.attained.0 t.attained.1.0, ap negated t.attained.1.1));
      least = λ x s. subst (λ (z : Row). NotBefore z (negated r)) (negated-negated (x e)) (NotBefore-negated r (negated (x e)) (t.greatest (λ v. negated (x v)) (mirrored_back x s)));
    }

    pub earliest_mirrored : (e : ℕ) (r : Row) → Earliest w m (reversed L) e (negated r) → Latest w m L e r
    earliest_mirrored e r t = record {
      attained = (λ v. negated (t.attained.0 v), (mirrored_back t.attained.0 t.attained.1.0, ap negated t.attained.1.1 ∙ negated-negated r));
      greatest = λ x s. subst₂ (λ (p q : Row). NotBefore p q) (negated-negated r) (negated-negated (x e)) (NotBefore-negated (negated (x e)) (negated r) (t.least (λ v. negated (x v)) (mirrored L wide x s)));
    }

    pub above_mirrored : (e : ℕ) → FreeAbove w m L e → FreeBelow w m (reversed L) e
    above_mirrored e f r h =
        let t = f (negated r) (length-negated r ∙ h) in
        (λ v. negated (t.0 v), (mirrored L wide t.0 t.1.0, subst (λ (z : Row). Before (negated (t.0 e)) z) (negated-negated r) (before_negated (negated r) (t.0 e) t.1.1)))

    pub below_mirrored : (e : ℕ) → FreeBelow w m (reversed L) e → FreeAbove w m L e
    below_mirrored e f r h =
        let t = f (negated r) (length-negated r ∙ h) in
        (λ v. negated (t.0 v), (mirrored_back t.0 t.1.0, subst (λ (z : Row). Before z (negated (t.0 e))) (negated-negated r) (before_negated (t.0 e) (negated r) t.1.1)))

    -- the greatest times are the least of the mirrored plan
    pub mirrored_latest : (e : ℕ) (r : Row) → Latest w m L e r ↔ Earliest w m (reversed L) e (negated r)
    mirrored_latest e r = (latest_mirrored e r, earliest_mirrored e r)

    pub mirrored_free : (e : ℕ) → FreeAbove w m L e ↔ FreeBelow w m (reversed L) e
    mirrored_free e = (above_mirrored e, below_mirrored e)

-- a chain read backwards
Chain-reversed : (m : ℕ) (L : Lags) (es : List ℕ) (u v : ℕ) (r : Row) → Chain m (reversed L) u es v r → Chain m L v (reverse es) u r
Chain-reversed m L [] u v r c = (c.1, c.0, c.2)
Chain-reversed m L (t ∷ es) u v r c =
    subst₂ (λ (xs : List ℕ) (z : Row). Chain m L v xs u z) (sym (reverse-cons t es)) (plus_comm c.1 c.0 ∙ sym c.5) (Chain-join m L (reverse es) [] v t u c.1 c.0 (Chain-reversed m L es t v c.1 c.4) (chain_from m (reversed L) es t v c.1 c.4, c.2, c.3))

-- a loop of the mirrored plan, read the other way round from its first event, is a loop of the plan
pub mirrored_loop : (w m : ℕ) (L : Lags) (e : ℕ) (es : List ℕ) → Loop w m (reversed L) (e ∷ es) → Loop w m L (e ∷ reverse es)
mirrored_loop w m L e es l =
    (AllAbove-reverse e es l.0, Distinct-reverse es l.1, (l.2.0, (Chain-reversed m L es e e l.2.0 l.2.1.0, l.2.1.1)))
