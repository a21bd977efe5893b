-- Optional rows: their width, and their order, in which an absent row is below every other.
use Rattle.std.proofs.Common.{◌≡◌, ℕ, ◌≢◌, ◌⊎◌, length, Some, None, Option, sym, refl, ap, ◌∙◌, subst, inl, inr}
use Rattle.rows.specs.Rows.{Row, plus, Before, NotBefore}
use Rattle.rows.proofs.Options.{none_or_some, same_some}
use Rattle.rows.proofs.Sums.{length-plus}
use Rattle.rows.proofs.Order.{Compared, less, same, more, compared, before_irrefl, NotBefore-antisym, NotBefore-trans, then_before}
use Rattle.rows.specs.MaxPlus.{later_of, both, later, added}
use Rattle.schedules.specs.Plans.{AtLeast}
use Rattle.rows.proofs.Tests.{Picked, yes, no, picked, later_left, later_right, later_both}

pub some_inj : {x y : Row} → ◌≡◌ {A = Option Row} (Some x) (Some y) → x ≡ y
some_inj {x} {y} e = same_some x y e

pub some_none : {x : Row} → ◌≡◌ {A = Option Row} (Some x) None → ⊥
some_none {x} e = none_or_some x (sym e)

-- P of the row, where there is one
abbrev pub Held : (Row → Type 0) → Option Row → Type 0
Held P None = Unit {0}
Held P (Some r) = P r

pub held_from : (P : Row → Type 0) (o : Option Row) → ((r : Row) → o ≡ Some r → P r) → Held P o
held_from P None f = tt
held_from P (Some r) f = f r refl

pub held_to : (P : Row → Type 0) (o : Option Row) (r : Row) → o ≡ Some r → Held P o → P r
held_to P o r e h = subst (Held P) e h

pub held_later : (P : Row → Type 0) (o p : Option Row) → Held P o → Held P p → Held P (later o p)
held_later P None p h k = k
held_later P (Some x) None h k = h
held_later P (Some x) (Some y) h k = later_both P x y h k

pub held_both : (P Q S : Row → Type 0) (f : Row → Row → Row) → ((x y : Row) → P x → Q y → S (f x y)) → (o p : Option Row) → Held P o → Held Q p → Held S (both f o p)
held_both P Q S f each None p h k = tt
held_both P Q S f each (Some x) None h k = tt
held_both P Q S f each (Some x) (Some y) h k = each x y h k

-- w parts, where there is a row
abbrev pub WideRow : ℕ → Option Row → Type 0
WideRow w o = Held (λ r. length r ≡ w) o

-- the first is below the second
abbrev pub Below : Option Row → Option Row → Type 0
Below p None = ⊥
Below None (Some y) = Unit {0}
Below (Some x) (Some y) = Before x y

pub WideRow-from : (w : ℕ) (o : Option Row) → ((a : Row) → o ≡ Some a → length a ≡ w) → WideRow w o
WideRow-from w = held_from (λ r. length r ≡ w)

pub WideRow-to : (w : ℕ) (o : Option Row) (a : Row) → o ≡ Some a → WideRow w o → length a ≡ w
WideRow-to w = held_to (λ r. length r ≡ w)

pub AtLeast-refl : (o : Option Row) → AtLeast o o
AtLeast-refl None = tt
AtLeast-refl (Some x) = before_irrefl x

pub AtLeast-trans : (w : ℕ) (p q o : Option Row) → WideRow w p → WideRow w q → AtLeast p q → AtLeast q o → AtLeast p o
AtLeast-trans w p q None d e h k = tt
AtLeast-trans w p None (Some z) d e h k = absurd k
AtLeast-trans w None (Some y) (Some z) d e h k = absurd h
AtLeast-trans w (Some x) (Some y) (Some z) d e h k = NotBefore-trans x y z (d ∙ sym e) h k

pub AtLeast-antisym : (w : ℕ) (p q : Option Row) → WideRow w p → WideRow w q → AtLeast p q → AtLeast q p → p ≡ q
AtLeast-antisym w None None d e h k = refl
AtLeast-antisym w None (Some y) d e h k = absurd h
AtLeast-antisym w (Some x) None d e h k = absurd k
AtLeast-antisym w (Some x) (Some y) d e h k = ap Some (NotBefore-antisym x y (d ∙ sym e) h k)

-- at least what is there is there
pub known_under : (p o : Option Row) → AtLeast p o → o ≢ None → p ≢ None
known_under p None h n = absurd (n refl)
known_under None (Some y) h n = absurd h
known_under (Some x) (Some y) h n = some_none

-- what is there is a row
pub known_row : (o : Option Row) → o ≢ None → (x : Row) × (o ≡ Some x)
known_row None n = absurd (n refl)
known_row (Some x) n = (x, refl)

pub row_under : (p : Option Row) (y : Row) → AtLeast p (Some y) → (x : Row) × (p ≡ Some x) × NotBefore x y
row_under None y h = absurd h
row_under (Some x) y h = (x, refl, h)

-- at least a row, so there is a row
pub below_not_at_least : (o p : Option Row) → Below o p → AtLeast o p → ⊥
below_not_at_least o None b h = b
below_not_at_least None (Some y) b h = h
below_not_at_least (Some x) (Some y) b h = h b

-- at least and not alike is above
pub above : (w : ℕ) (p o : Option Row) → WideRow w p → WideRow w o → AtLeast p o → (p ≡ o → ⊥) → Below o p
above w None None d e h n = absurd (n refl)
above w (Some x) None d e h n = tt
above w None (Some y) d e h n = absurd h
above w (Some x) (Some y) d e h n = go (compared x y (d ∙ sym e))
  where
    go : Compared x y → Before y x
    go (less b) = absurd (h b)
    go (same b) = absurd (n (ap (λ (z : Row). Some z) b))
    go (more b) = b

-- alike or not
pub alike : (w : ℕ) (p o : Option Row) → WideRow w p → WideRow w o → (p ≡ o) ⊎ (p ≡ o → ⊥)
alike w None None d e = inl refl
alike w (Some x) None d e = inr some_none
alike w None (Some y) d e = inr (λ h. some_none (sym h))
alike w (Some x) (Some y) d e = go (compared x y (d ∙ sym e))
  where
    go : Compared x y → (◌≡◌ {A = Option Row} (Some x) (Some y)) ⊎ (◌≡◌ {A = Option Row} (Some x) (Some y) → ⊥)
    go (less b) = inr (λ h. before_irrefl y (subst (λ (z : Row). Before z y) (some_inj h) b))
    go (same b) = inl (ap (λ (z : Row). Some z) b)
    go (more b) = inr (λ h. before_irrefl y (subst (λ (z : Row). Before y z) (some_inj h) b))

-- below what is above
pub below_under : (w : ℕ) (o q p : Option Row) → WideRow w o → WideRow w q → AtLeast q o → Below q p → Below o p
below_under w o q None d e h b = absurd b
below_under w None q (Some z) d e h b = tt
below_under w (Some x) None (Some z) d e h b = absurd h
below_under w (Some x) (Some y) (Some z) d e h b = then_before x y z (e ∙ sym d) h b

-- the later of two

pub later_rowed : (w : ℕ) (o p : Option Row) → WideRow w o → WideRow w p → WideRow w (later o p)
later_rowed w = held_later (λ r. length r ≡ w)

pub later_at_left : (o p : Option Row) → AtLeast (later o p) o
later_at_left None p = tt
later_at_left (Some x) None = before_irrefl x
later_at_left (Some x) (Some y) = later_left x y

pub later_at_right : (o p : Option Row) → AtLeast (later o p) p
later_at_right None p = AtLeast-refl p
later_at_right (Some x) None = tt
later_at_right (Some x) (Some y) = later_right x y

pub later_under : (q o p : Option Row) → AtLeast q o → AtLeast q p → AtLeast q (later o p)
later_under q None p h k = k
later_under q (Some x) None h k = h
later_under q (Some x) (Some y) h k = later_both (λ (z : Row). AtLeast q (Some z)) x y h k

-- it is the first, or else the second, which is there
pub later_one : (o p : Option Row) → (later o p ≡ o) ⊎ ((z : Row) × (p ≡ Some z) × (later o p ≡ Some z))
later_one None None = inl refl
later_one None (Some y) = inr (y, refl, refl)
later_one (Some x) None = inl refl
later_one (Some x) (Some y) = go (later_of x y) (picked x y y x)
  where
    go : (z : Row) → Picked x y y x z → (◌≡◌ {A = Option Row} (Some z) (Some x)) ⊎ ((t : Row) × (◌≡◌ {A = Option Row} (Some y) (Some t)) × (◌≡◌ {A = Option Row} (Some z) (Some t)))
    go z (yes e h) = inr (y, refl, ap (λ (t : Row). Some t) e)
    go z (no e n) = inl (ap (λ (t : Row). Some t) e)

-- a total and a lag

pub after_rowed : (w : ℕ) (t a : Option Row) → WideRow w t → WideRow w a → WideRow w (added t a)
after_rowed w = held_both (λ r. length r ≡ w) (λ r. length r ≡ w) (λ r. length r ≡ w) plus (λ t a. length-plus t a w)

pub after_is : (t a : Option Row) (x y : Row) → t ≡ Some x → a ≡ Some y → added t a ≡ Some (plus x y)
after_is t a x y d e = rw (d, e)

pub added_known : (o : Option Row) (a : Row) → o ≢ None → added o (Some a) ≢ None
added_known None a n = absurd (n refl)
added_known (Some x) a n = some_none
