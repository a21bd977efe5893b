-- The test decides the order, and the later and the earlier of two rows.
use Rattle.std.proofs.Common.{◌≡◌, Bool, true, false, cond, [], ◌∷◌, ℤ, ◌≤ℤ◌, ◌<ℤ◌, sym, refl, subst, inl, inr, arith}
use lib.Signed.{lt_z}
use Rattle.std.proofs.lemmas.Int.{ints}
use Rattle.std.proofs.lemmas.Bool.{true≢false, false≢true, both_ways}
use Rattle.rows.specs.Rows.{Row, Before, NotBefore}
use Rattle.rows.proofs.Order.{before_irrefl, before_asym}
use Rattle.rows.specs.MaxPlus.{before, later_of, earlier_of}

lt_from : (a b : ℤ) → lt_z a b ≡ true → a <ℤ b
lt_from a b e = grind (arith, ints)

le_from : (a b : ℤ) → lt_z a b ≡ false → b ≤ℤ a
le_from a b e = grind (arith, ints)

-- what a test of the order answers
pub data Decided (x y : Row) (b : Bool) : Type 0 where
  holds : b ≡ true → Before x y → Decided x y b
  fails : b ≡ false → NotBefore x y → Decided x y b

not_later : (a b : ℤ) (x y : Row) → b <ℤ a → NotBefore (a ∷ x) (b ∷ y)
not_later a b x y h (inl k) = omega (arith, ints)
not_later a b x y h (inr k) = let e : a ≡ b = k.0 in omega (arith, ints)

same_first : (a b : ℤ) (x y : Row) → b ≤ℤ a → NotBefore x y → NotBefore (a ∷ x) (b ∷ y)
same_first a b x y h n (inl k) = omega (arith, ints)
same_first a b x y h n (inr k) = n k.1

decided_next : (a b : ℤ) (x y : Row) (p q : Bool) → lt_z a b ≡ p → lt_z b a ≡ q → Decided x y (before x y) → Decided (a ∷ x) (b ∷ y) (cond p true (cond q false (before x y)))
decided_next a b x y true q e f d = holds refl (inl (lt_from a b e))
decided_next a b x y false true e f d = fails refl (not_later a b x y (lt_from b a f))
decided_next a b x y false false e f (holds t h) =
    let h1 : b ≤ℤ a = le_from a b e in
    let h2 : a ≤ℤ b = le_from b a f in
    holds t (inr (omega (arith, ints), h))
decided_next a b x y false false e f (fails t n) = fails t (same_first a b x y (le_from a b e) n)

pub decided : (x y : Row) → Decided x y (before x y)
decided [] y = fails refl (λ h. h)
decided (a ∷ x) [] = fails refl (λ h. h)
decided (a ∷ x) (b ∷ y) = decided_next a b x y (lt_z a b) (lt_z b a) refl refl (decided x y)

-- one of two rows, by the order of x and y
pub data Picked (x y u v : Row) (z : Row) : Type 0 where
  yes : z ≡ u → Before x y → Picked x y u v z
  no : z ≡ v → NotBefore x y → Picked x y u v z

pub picked : (x y u v : Row) → Picked x y u v (cond (before x y) u v)
picked x y u v = go (before x y) (decided x y)
  where
    go : (b : Bool) → Decided x y b → Picked x y u v (cond b u v)
    go true (holds e h) = yes refl h
    go true (fails e n) = absurd (true≢false e)
    go false (holds e h) = absurd (false≢true e)
    go false (fails e n) = no refl n

pub picked_yes : (x y u v : Row) → Before x y → u ≡ cond (before x y) u v
picked_yes x y u v h = go (cond (before x y) u v) (picked x y u v)
  where
    go : (z : Row) → Picked x y u v z → u ≡ z
    go z (yes e b) = sym e
    go z (no e n) = absurd (n h)

pub picked_no : (x y u v : Row) → NotBefore x y → v ≡ cond (before x y) u v
picked_no x y u v h = go (cond (before x y) u v) (picked x y u v)
  where
    go : (z : Row) → Picked x y u v z → v ≡ z
    go z (yes e b) = absurd (h b)
    go z (no e n) = sym e

pub before_true : (x y : Row) → before x y ≡ true → Before x y
before_true x y e = go (decided x y)
  where
    go : Decided x y (before x y) → Before x y
    go (holds t h) = h
    go (fails t n) = absurd (both_ways (before x y) t e)

pub before_false : (x y : Row) → before x y ≡ false → NotBefore x y
before_false x y e = go (decided x y)
  where
    go : Decided x y (before x y) → NotBefore x y
    go (holds t h) = absurd (both_ways (before x y) e t)
    go (fails t n) = n

-- what holds of the picked one on either side
picked_holds : (P : Row → Type 0) (x y u v : Row) → (Before x y → P u) → (NotBefore x y → P v) → P (cond (before x y) u v)
picked_holds P x y u v p q = go (cond (before x y) u v) (picked x y u v)
  where
    go : (z : Row) → Picked x y u v z → P z
    go z (yes e b) = subst P (sym e) (p b)
    go z (no e n) = subst P (sym e) (q n)

-- the later of two is before neither
pub later_left : (x y : Row) → NotBefore (later_of x y) x
later_left x y = picked_holds (λ z. NotBefore z x) x y y x (before_asym x y) (λ n. before_irrefl x)

pub later_right : (x y : Row) → NotBefore (later_of x y) y
later_right x y = picked_holds (λ z. NotBefore z y) x y y x (λ b. before_irrefl y) (λ n. n)

-- neither of two is before the earlier
pub earlier_left : (x y : Row) → NotBefore x (earlier_of x y)
earlier_left x y = picked_holds (λ z. NotBefore x z) x y x y (λ b. before_irrefl x) (λ n. n)

pub earlier_right : (x y : Row) → NotBefore y (earlier_of x y)
earlier_right x y = picked_holds (λ z. NotBefore y z) x y x y (before_asym x y) (λ n. before_irrefl y)

-- what holds of both holds of either
pub later_both : (P : Row → Type 0) (x y : Row) → P x → P y → P (later_of x y)
later_both P x y p q = picked_holds P x y y x (λ b. q) (λ n. p)

pub earlier_both : (P : Row → Type 0) (x y : Row) → P x → P y → P (earlier_of x y)
earlier_both P x y p q = picked_holds P x y x y (λ b. p) (λ n. q)
