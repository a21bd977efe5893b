-- The later and the earlier of two give the latest and the earliest, one after the other.
use Rattle.std.proofs.Common.{◌≡◌, ℕ, zero, suc, ◌<◌, ◌≤◌, ◌⊎◌, length, Some, None, Option, sym, refl, ap, ◌∙◌, subst, inl, inr, arith}
use Rattle.std.proofs.lemmas.Bool.{cases_lt}
use Rattle.rows.specs.Rows.{Row, Before, NotBefore}
use Rattle.rows.specs.MaxPlus.{later_of, earlier_of, either, later, earlier, folded}
use Rattle.rows.specs.Extremes.{BestOf, LatestOf, EarliestOf, Among}
use Rattle.rows.proofs.Options.{none_or_some, same_some}
use Rattle.rows.proofs.Order.{before_irrefl, before_asym, NotBefore-trans}
use Rattle.rows.proofs.Tests.{Picked, yes, no, picked, picked_yes, picked_no}

-- an order, and the better of two by it
record Chooses (R : Row → Row → Type 0) (op : Row → Row → Row) : Type 0 where
  pub self : (x : Row) → R x x
  pub trans : (x y z : Row) → length x ≡ length y → length y ≡ length z → R x y → R y z → R x z
  pub picks : (x y : Row) → ((op x y ≡ x) × R x y) ⊎ ((op x y ≡ y) × R y x)

later_chooses : Chooses NotBefore later_of
later_chooses = record {
  self = before_irrefl;
  trans = λ x y z d e. NotBefore-trans x y z d;
  picks = λ x y. go x y (later_of x y) (picked x y y x);
}
  where
    go : (x y z : Row) → Picked x y y x z → ((z ≡ x) × NotBefore x y) ⊎ ((z ≡ y) × NotBefore y x)
    go x y z (yes e h) = inr (e, before_asym x y h)
    go x y z (no e n) = inl (e, n)

earlier_chooses : Chooses (λ r q. NotBefore q r) earlier_of
earlier_chooses = record {
  self = before_irrefl;
  trans = λ x y z d e h k. NotBefore-trans z y x (sym e) k h;
  picks = λ x y. go x y (earlier_of x y) (picked x y x y);
}
  where
    go : (x y z : Row) → Picked x y x y z → ((z ≡ x) × NotBefore y x) ⊎ ((z ≡ y) × NotBefore x y)
    go x y z (yes e h) = inl (e, before_asym x y h)
    go x y z (no e n) = inr (e, n)

-- one alone is the best

best_one : (R : Row → Row → Type 0) → ((x : Row) → R x x) → (o : Option Row) → BestOf R (λ q. o ≡ Some q) o
best_one R self None = none_or_some
best_one R self (Some x) = (refl, λ q e. subst (R x) (same_some x q e) (self x))

pub latest_one : (o : Option Row) → LatestOf (λ q. o ≡ Some q) o
latest_one o = best_one NotBefore before_irrefl o

pub among_none : (f : ℕ → Option Row) (q : Row) → Among 0 f q → ⊥
among_none f q h = omega (arith, h.1, h.2)

module _ (R : Row → Row → Type 0) (op : Row → Row → Row) (order : Chooses R op) (w : ℕ) where
  -- what has one of two properties, of rows of one width
  module _ (P Q S : Row → Type 0) (split : (q : Row) → S q → P q ⊎ Q q) (left : (q : Row) → P q → S q) (right : (q : Row) → Q q → S q) (wide_left : (q : Row) → P q → length q ≡ w) (wide_right : (q : Row) → Q q → length q ≡ w) where
    best_either : (s t : Option Row) → BestOf R P s → BestOf R Q t → BestOf R S (either op s t)
    best_either None None p q = λ r h. go r (split r h)
      where
        go : (r : Row) → P r ⊎ Q r → ⊥
        go r (inl k) = p r k
        go r (inr k) = q r k
    best_either None (Some y) p q = (right y q.0, λ r h. go r (split r h))
      where
        go : (r : Row) → P r ⊎ Q r → R y r
        go r (inl k) = absurd (p r k)
        go r (inr k) = q.1 r k
    best_either (Some x) None p q = (left x p.0, λ r h. go r (split r h))
      where
        go : (r : Row) → P r ⊎ Q r → R x r
        go r (inl k) = p.1 r k
        go r (inr k) = absurd (q r k)
    best_either (Some x) (Some y) p q = choose (op x y) (order.picks x y)
      where
        alike : length x ≡ length y
        alike = wide_left x p.0 ∙ sym (wide_right y q.0)

        first_best : R x y → (r : Row) → P r ⊎ Q r → R x r
        first_best b r (inl k) = p.1 r k
        first_best b r (inr k) = order.trans x y r alike (wide_right y q.0 ∙ sym (wide_right r k)) b (q.1 r k)

        second_best : R y x → (r : Row) → P r ⊎ Q r → R y r
        second_best b r (inl k) = order.trans y x r (sym alike) (wide_left x p.0 ∙ sym (wide_left r k)) b (p.1 r k)
        second_best b r (inr k) = q.1 r k

        choose : (z : Row) → ((z ≡ x) × R x y) ⊎ ((z ≡ y) × R y x) → BestOf R S (Some z)
        choose z (inl t) = subst (λ (z : Row). BestOf R S (Some z)) (sym t.0) (left x p.0, λ r h. first_best t.1 r (split r h))
        choose z (inr t) = subst (λ (z : Row). BestOf R S (Some z)) (sym t.0) (right y q.0, λ r h. second_best t.1 r (split r h))

  -- one more of f 1, f 2, ..
  module _ (f : ℕ → Option Row) where
    split_last : (n : ℕ) (q : Row) → Among (suc n) f q → Among n f q ⊎ (f (suc n) ≡ Some q)
    split_last n q h = go (cases_lt n h.0)
      where
        go : (n < h.0) ⊎ (h.0 ≤ n) → Among n f q ⊎ (f (suc n) ≡ Some q)
        go (inl l) = let e : h.0 ≡ suc n = omega (arith, h.2) in inr (subst (λ (k : ℕ). f k ≡ Some q) e h.3)
        go (inr l) = inl (h.0, h.1, l, h.3)

    best_folded : (n : ℕ) → ((k : ℕ) (q : Row) → 1 ≤ k → k ≤ n → f k ≡ Some q → length q ≡ w) → BestOf R (Among n f) (folded (either op) None n (λ k. f (suc k)))
    best_folded zero wide = among_none f
    best_folded (suc n) wide =
        best_either (Among n f) (λ q. f (suc n) ≡ Some q) (Among (suc n) f) (split_last n) (λ q h. (h.0, h.1, omega (arith, h.2), h.3)) (λ q e. (suc n, omega arith, omega arith, e)) (λ q h. wide h.0 q h.1 (omega (arith, h.2)) h.3) (λ q e. wide (suc n) q (omega arith) (omega arith) e) (folded (either op) None n (λ k. f (suc k))) (f (suc n)) (best_folded n (λ k q low high. wide k q low (omega (arith, high)))) (best_one R order.self (f (suc n)))

pub latest_either : (w : ℕ) (P Q S : Row → Type 0) (split : (q : Row) → S q → P q ⊎ Q q) (left : (q : Row) → P q → S q) (right : (q : Row) → Q q → S q) (wide_left : (q : Row) → P q → length q ≡ w) (wide_right : (q : Row) → Q q → length q ≡ w) (s t : Option Row) → LatestOf P s → LatestOf Q t → LatestOf S (later s t)
latest_either = best_either NotBefore later_of later_chooses

-- the latest and the earliest of f 1, f 2, .., f n, one after the other

pub latest_folded : (w : ℕ) (f : ℕ → Option Row) (n : ℕ) → ((k : ℕ) (q : Row) → 1 ≤ k → k ≤ n → f k ≡ Some q → length q ≡ w) → LatestOf (Among n f) (folded later None n (λ k. f (suc k)))
latest_folded = best_folded NotBefore later_of later_chooses

pub earliest_folded : (w : ℕ) (f : ℕ → Option Row) (n : ℕ) → ((k : ℕ) (q : Row) → 1 ≤ k → k ≤ n → f k ≡ Some q → length q ≡ w) → EarliestOf (Among n f) (folded earlier None n (λ k. f (suc k)))
earliest_folded = best_folded (λ r q. NotBefore q r) earlier_of earlier_chooses

-- which of two is the later, and the earlier

pub later_second : (x y : Row) → Before x y → Some y ≡ later (Some x) (Some y)
later_second x y h = ap Some (picked_yes x y y x h)

pub later_first : (x y : Row) → NotBefore x y → Some x ≡ later (Some x) (Some y)
later_first x y h = ap Some (picked_no x y y x h)

pub earlier_first : (x y : Row) → Before x y → Some x ≡ earlier (Some x) (Some y)
earlier_first x y h = ap Some (picked_yes x y x y h)

pub earlier_second : (x y : Row) → NotBefore x y → Some y ≡ earlier (Some x) (Some y)
earlier_second x y h = ap Some (picked_no x y x y h)
