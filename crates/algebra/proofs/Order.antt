-- The order of optional rows: ⊕ is the least that is at least both, ⊗ keeps the order, and a sum
-- over an index is at least each part.
use Rattle.std.proofs.Common.{◌≡◌, ℕ, ◌<◌, ◌⊎◌, length, Some, None, Option, sym, refl, ap, ◌∙◌, subst, inl, inr}
use Rattle.rows.specs.Extremes.{LatestOf}
use Rattle.rows.specs.MaxPlus.{later, added}
use Rattle.rows.specs.Rows.{Row}
use Rattle.rows.proofs.Order.{NotBefore-antisym, NotBefore-sum}
use Rattle.rows.proofs.Sums.{plus_assoc, plus_comm}
use Rattle.schedules.specs.Plans.{AtLeast}
use Rattle.schedules.proofs.Optional.{WideRow, AtLeast-refl, AtLeast-trans, later_rowed, later_under, later_at_left, later_at_right, later_one, after_rowed}
use Rattle.schedules.proofs.Joined.{folded_holds, folded_same, folded_one, folded_rowed, folded_covers}
use Rattle.rows.proofs.Options.{none_or_some, same_some}
use Rattle.rows.specs.Algebra.{Vector, sum, ◌≼◌}

pub antisym : (w : ℕ) (p q : Option Row) → WideRow w p → WideRow w q → AtLeast p q → AtLeast q p → p ≡ q
antisym w None None d e h k = refl
antisym w None (Some y) d e h k = absurd h
antisym w (Some x) None d e h k = absurd k
antisym w (Some x) (Some y) d e h k = ap (λ (z : Row). Some z) (NotBefore-antisym x y (d ∙ sym e) h k)

pub added_mono : (o p l : Option Row) → AtLeast o p → AtLeast (added o l) (added p l)
added_mono o None l h = tt
added_mono None (Some y) l h = absurd h
added_mono (Some x) (Some y) None h = tt
added_mono (Some x) (Some y) (Some a) h = NotBefore-sum x y a h

pub added_comm : (o p : Option Row) → added o p ≡ added p o
added_comm None None = refl
added_comm None (Some y) = refl
added_comm (Some x) None = refl
added_comm (Some x) (Some y) = ap (λ (z : Row). Some z) (plus_comm x y)

pub added_assoc : (o p q : Option Row) → added (added o p) q ≡ added o (added p q)
added_assoc None p q = refl
added_assoc (Some x) None q = refl
added_assoc (Some x) (Some y) None = refl
added_assoc (Some x) (Some y) (Some z) = ap (λ (t : Row). Some t) (plus_assoc x y z)

-- the order of the algebra

pub below_from : (w : ℕ) (a b : Option Row) → WideRow w a → WideRow w b → AtLeast b a → a ≼ b
below_from w a b d e h = antisym w (later a b) b (later_rowed w a b d e) e (later_at_right a b) (later_under b a b h (AtLeast-refl b))

pub below_to : (a b : Option Row) → a ≼ b → AtLeast b a
below_to a b e = subst (λ (o : Option Row). AtLeast o a) e (later_at_left a b)

-- a sum over an index

pub sum_same : (n : ℕ) (f g : Vector) → ((k : ℕ) → k < n → f k ≡ g k) → sum n f ≡ sum n g
sum_same n f g h = folded_same later None None n f g refl h

pub sum_least : (n : ℕ) (f : Vector) (q : Option Row) → ((k : ℕ) → k < n → AtLeast q (f k)) → AtLeast q (sum n f)
sum_least n f q h = folded_holds (AtLeast q) (later_under q) None n f tt h

-- so with the sum times another
pub product_least : (n : ℕ) (f : Vector) (p q : Option Row) → ((k : ℕ) → k < n → AtLeast q (added (f k) p)) → AtLeast q (added (sum n f) p)
product_least n f p q h = folded_holds (λ (o : Option Row). AtLeast q (added o p)) both None n f tt h
  where
    both : (o r : Option Row) → AtLeast q (added o p) → AtLeast q (added r p) → AtLeast q (added (later o r) p)
    both o r s t = go (later_one o r)
      where
        go : (later o r ≡ o) ⊎ ((z : Row) × (r ≡ Some z) × (later o r ≡ Some z)) → AtLeast q (added (later o r) p)
        go (inl e) = subst (λ (z : Option Row). AtLeast q (added z p)) (sym e) s
        go (inr e) = subst (λ (z : Option Row). AtLeast q (added z p)) (e.1 ∙ sym e.2) t

pub sum_reached : (n : ℕ) (f : Vector) (q : Row) → sum n f ≡ Some q → (k : ℕ) × (k < n) × (f k ≡ Some q)
sum_reached n f q e = go (folded_one None n f)
  where
    go : (sum n f ≡ None) ⊎ ((k : ℕ) × (k < n) × ((z : Row) × (f k ≡ Some z) × (sum n f ≡ Some z))) → (k : ℕ) × (k < n) × (f k ≡ Some q)
    go (inl h) = none_or_some q (sym h ∙ e)
    go (inr t) = (t.0, t.1, t.2.1 ∙ sym t.2.2 ∙ e)

module _ (w : ℕ) where
  pub sum_rowed : (n : ℕ) (f : Vector) → ((k : ℕ) → k < n → WideRow w (f k)) → WideRow w (sum n f)
  sum_rowed n f h = folded_rowed w None f tt n h

  pub sum_covers : (n : ℕ) (f : Vector) → ((k : ℕ) → k < n → WideRow w (f k)) → (k : ℕ) → k < n → AtLeast (sum n f) (f k)
  sum_covers n f h k l = folded_covers w None f tt n h k l

  -- one latest and one earliest of the rows of one width that have a property

  pub latest_unique : (P : Row → Type 0) → ((q : Row) → P q → length q ≡ w) → (o p : Option Row) → LatestOf P o → LatestOf P p → o ≡ p
  latest_unique P wide None None h k = refl
  latest_unique P wide None (Some y) h k = absurd (h y k.0)
  latest_unique P wide (Some x) None h k = absurd (k x h.0)
  latest_unique P wide (Some x) (Some y) h k =
      ap (λ (z : Row). Some z) (NotBefore-antisym x y (wide x h.0 ∙ sym (wide y k.0)) (h.1 y k.0) (k.1 x h.0))

-- the latest is at least what is among them
pub latest_covers : (P : Row → Type 0) (o p : Option Row) → LatestOf P o → ((q : Row) → p ≡ Some q → P q) → AtLeast o p
latest_covers P o None h f = tt
latest_covers P None (Some q) h f = h q (f q refl)
latest_covers P (Some r) (Some q) h f = h.1 q (f q refl)

pub latest_rowed : (w : ℕ) (P : Row → Type 0) → ((q : Row) → P q → length q ≡ w) → (o : Option Row) → LatestOf P o → WideRow w o
latest_rowed w P wide None h = tt
latest_rowed w P wide (Some r) h = wide r h.0

-- The product of x and the latest rows: what is at least each row times the entry of x, and no more
-- than one of these.
module _ (w n : ℕ) (x : Vector) (sized : (j : ℕ) → j < n → WideRow w (x j)) (P : ℕ → Row → Type 0) (wide : (j : ℕ) → j < n → (q : Row) → P j q → length q ≡ w) where
  module _ (f : Vector) (latest : (j : ℕ) → j < n → LatestOf (P j) (f j)) where
    abbrev part : Vector
    part j = added (f j) (x j)

    part_rowed : (j : ℕ) → j < n → WideRow w (part j)
    part_rowed j j_in = after_rowed w (f j) (x j) (latest_rowed w (P j) (wide j j_in) (f j) (latest j j_in)) (sized j j_in)

    part_under : (o : Option Row) → ((j : ℕ) (q : Row) → j < n → P j q → AtLeast o (added (Some q) (x j))) → (j : ℕ) → j < n → AtLeast o (part j)
    part_under o above j j_in = go (f j) (latest j j_in)
      where
        go : (p : Option Row) → LatestOf (P j) p → AtLeast o (added p (x j))
        go None h = tt
        go (Some q) h = above j q j_in h.0

    part_over : (j : ℕ) (q r : Row) → j < n → P j q → AtLeast (added (Some q) (x j)) (Some r) → AtLeast (sum n part) (Some r)
    part_over j q r j_in h k =
        let most : AtLeast (f j) (Some q) = latest_covers (P j) (f j) (Some q) (latest j j_in) (λ s d. subst (P j) (same_some q s d) h) in
        AtLeast-trans w (sum n part) (part j) (Some r) (sum_rowed w n part part_rowed) (part_rowed j j_in) (sum_covers w n part part_rowed j j_in)
        (AtLeast-trans w (part j) (added (Some q) (x j)) (Some r) (part_rowed j j_in) (after_rowed w (Some q) (x j) (wide j j_in q h) (sized j j_in)) (added_mono (f j) (Some q) (x j) most) k)

    pub latest_product : (o : Option Row) → WideRow w o → ((j : ℕ) (q : Row) → j < n → P j q → AtLeast o (added (Some q) (x j))) → ((r : Row) → o ≡ Some r → (j : ℕ) × (q : Row) × (j < n) × P j q × AtLeast (added (Some q) (x j)) (Some r)) → o ≡ sum n (λ j. added (f j) (x j))
    latest_product o rowed above reached =
        antisym w o (sum n part) rowed (sum_rowed w n part part_rowed) (sum_least n part o (part_under o above)) (over o refl)
      where
        over : (p : Option Row) → o ≡ p → AtLeast (sum n part) p
        over None e = tt
        over (Some r) e = let t = reached r e in part_over t.0 t.1 r t.2 t.3 t.4
