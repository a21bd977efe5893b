-- The order of rows.
use Rattle.std.proofs.Common.{◌≡◌, ℕ, zero, suc, ◌≤◌, ◌⊎◌, [], ◌∷◌, length, ℤ, pos, ◌+ℤ◌, neg_ℤ, ◌≤ℤ◌, sym, refl, ap, ◌∙◌, subst, inl, inr, arith}
use Rattle.std.proofs.lemmas.Int.{ints, by_lt_z}
use Rattle.rows.specs.Rows.{Row, zeros, plus, minus, negated, Before, NotBefore}
use Rattle.rows.proofs.Sums.{cons≡, length-plus, length-zeros, plus-zeros, plus_comm, plus-minus, length-negated, negated-negated}

pub before_irrefl : (x : Row) → NotBefore x x
before_irrefl [] h = h
before_irrefl (a ∷ x) (inl h) = omega (arith, ints)
before_irrefl (a ∷ x) (inr h) = before_irrefl x h.1

pub before_trans : (x y z : Row) → Before x y → Before y z → Before x z
before_trans [] y z p q = absurd p
before_trans (a ∷ x) [] z p q = absurd p
before_trans (a ∷ x) (b ∷ y) [] p q = absurd q
before_trans (a ∷ x) (b ∷ y) (c ∷ z) (inl p) (inl q) = inl (omega (arith, ints))
before_trans (a ∷ x) (b ∷ y) (c ∷ z) (inl p) (inr q) = inl (omega (arith, ints))
before_trans (a ∷ x) (b ∷ y) (c ∷ z) (inr p) (inl q) = inl (omega (arith, ints))
before_trans (a ∷ x) (b ∷ y) (c ∷ z) (inr p) (inr q) = inr (p.0 ∙ q.0, before_trans x y z p.1 q.1)

pub before_plus : (x y z : Row) → length x ≡ length z → Before x y → Before (plus x z) (plus y z)
before_plus [] y z e h = absurd h
before_plus (a ∷ x) [] z e h = absurd h
before_plus (a ∷ x) (b ∷ y) [] e h = absurd (omega arith)
before_plus (a ∷ x) (b ∷ y) (c ∷ z) e (inl h) = inl (omega (arith, ints))
before_plus (a ∷ x) (b ∷ y) (c ∷ z) e (inr h) = inr (ap (λ (t : ℤ). t +ℤ c) h.0, before_plus x y z (omega arith) h.1)

pub before_negated : (x y : Row) → Before x y → Before (negated y) (negated x)
before_negated [] y h = absurd h
before_negated (a ∷ x) [] h = absurd h
before_negated (a ∷ x) (b ∷ y) (inl h) = inl (omega (arith, ints))
before_negated (a ∷ x) (b ∷ y) (inr h) = inr (ap neg_ℤ (sym h.0), before_negated x y h.1)

-- which of two rows of one width is before the other
pub data Compared (x y : Row) : Type 0 where
  less : Before x y → Compared x y
  same : x ≡ y → Compared x y
  more : Before y x → Compared x y

pub compared : (x y : Row) → length x ≡ length y → Compared x y
compared [] [] e = same refl
compared [] (b ∷ y) e = absurd (omega arith)
compared (a ∷ x) [] e = absurd (omega arith)
compared (a ∷ x) (b ∷ y) e =
    by_lt_z a b (λ h. less (inl h)) (λ h. by_lt_z b a (λ k. more (inl k)) (λ k. onto (omega (arith, ints)) (compared x y (omega arith))))
  where
    onto : a ≡ b → Compared x y → Compared (a ∷ x) (b ∷ y)
    onto p (less h) = less (inr (p, h))
    onto p (same h) = same (cons≡ p h)
    onto p (more h) = more (inr (sym p, h))

pub before_total : (x y : Row) → length x ≡ length y → Before x y ⊎ ((x ≡ y) ⊎ Before y x)
before_total x y e = go (compared x y e)
  where
    go : Compared x y → Before x y ⊎ ((x ≡ y) ⊎ Before y x)
    go (less h) = inl h
    go (same h) = inr (inl h)
    go (more h) = inr (inr h)

-- one in the first part, and zero in the others
pub after_zeros : (w : ℕ) → 1 ≤ w → (x : Row) × (length x ≡ w) × Before (zeros w) x
after_zeros zero h = absurd (omega arith)
after_zeros (suc w) h = (pos 1 ∷ zeros w, ap suc (length-zeros w), inl (omega (arith, ints)))

pub before_asym : (x y : Row) → Before x y → NotBefore y x
before_asym x y h k = before_irrefl x (before_trans x y x h k)

pub NotBefore-same : (x y : Row) → x ≡ y → NotBefore x y
NotBefore-same x y e h = before_irrefl y (subst (λ (r : Row). Before r y) e h)

-- at least, at least
pub NotBefore-trans : (x y z : Row) → length x ≡ length y → NotBefore x y → NotBefore y z → NotBefore x z
NotBefore-trans x y z e h k b = go (compared x y e)
  where
    go : Compared x y → ⊥
    go (less p) = h p
    go (same p) = k (subst (λ (r : Row). Before r z) p b)
    go (more p) = k (before_trans y x z p b)

pub NotBefore-antisym : (x y : Row) → length x ≡ length y → NotBefore x y → NotBefore y x → x ≡ y
NotBefore-antisym x y e h k = go (compared x y e)
  where
    go : Compared x y → x ≡ y
    go (less p) = absurd (h p)
    go (same p) = p
    go (more p) = absurd (k p)

pub NotBefore-negated : (x y : Row) → NotBefore x y → NotBefore (negated y) (negated x)
NotBefore-negated x y h b =
    h (subst (λ (r : Row). Before r y) (negated-negated x) (subst (λ (r : Row). Before (negated (negated x)) r) (negated-negated y) (before_negated (negated y) (negated x) b)))

-- a sum keeps the order, and so does taking away
pub NotBefore-plus : (x y z : Row) → length x ≡ length z → length y ≡ length z → NotBefore x y → NotBefore (plus x z) (plus y z)
NotBefore-plus x y z e f h b =
    h (subst (λ (r : Row). Before r y) (plus-minus x z e) (subst (λ (r : Row). Before (minus (plus x z) z) r) (plus-minus y z f) (before_plus (plus x z) (plus y z) (negated z) (lengths) b)))
  where
    lengths : length (plus x z) ≡ length (negated z)
    lengths = length-plus x z (length z) e refl ∙ sym (length-negated z)

-- equal parts taken from both sides
pub before_cancel : (x y z : Row) → Before (plus x z) (plus y z) → Before x y
before_cancel [] y z h = absurd h
before_cancel (a ∷ x) [] [] h = absurd h
before_cancel (a ∷ x) [] (c ∷ z) h = absurd h
before_cancel (a ∷ x) (b ∷ y) [] h = absurd h
before_cancel (a ∷ x) (b ∷ y) (c ∷ z) (inl h) = inl (omega (arith, ints))
before_cancel (a ∷ x) (b ∷ y) (c ∷ z) (inr h) =
    let e : a +ℤ c ≡ b +ℤ c = h.0 in
    inr (omega (arith, ints), before_cancel x y z h.1)

-- a sum keeps the order, of rows of any width
pub NotBefore-sum : (x y z : Row) → NotBefore x y → NotBefore (plus x z) (plus y z)
NotBefore-sum x y z h b = h (before_cancel x y z b)

-- a sum with what is after zero comes later, and only with that
pub before_raised : (w : ℕ) (t r : Row) → length t ≡ w → Before (zeros w) r → Before t (plus t r)
before_raised w t r e h =
    subst (λ (s : Row). Before s (plus t r)) (plus_comm (zeros w) t ∙ plus-zeros w t e) (subst (λ (s : Row). Before (plus (zeros w) t) s) (plus_comm r t) (before_plus (zeros w) r t (length-zeros w ∙ sym e) h))

pub raised_before : (w : ℕ) (t r : Row) → length t ≡ w → Before t (plus t r) → Before (zeros w) r
raised_before w t r e h =
    before_cancel (zeros w) r t (subst (λ (s : Row). Before s (plus r t)) (sym (plus_comm (zeros w) t ∙ plus-zeros w t e)) (subst (λ (s : Row). Before t s) (plus_comm t r) h))

-- before, and then at least
pub before_then : (x y z : Row) → length z ≡ length y → Before x y → NotBefore z y → Before x z
before_then x y z e h n = go (compared z y e)
  where
    go : Compared z y → Before x z
    go (less p) = absurd (n p)
    go (same p) = subst (λ (s : Row). Before x s) (sym p) h
    go (more p) = before_trans x y z h p

pub then_before : (x y z : Row) → length y ≡ length x → NotBefore y x → Before y z → Before x z
then_before x y z e n h = go (compared y x e)
  where
    go : Compared y x → Before x z
    go (less p) = absurd (n p)
    go (same p) = subst (λ (s : Row). Before s z) p h
    go (more p) = before_trans x y z p h

-- at least, at least, where the row between is not the shorter
pub NotBefore-between : (x y z : Row) → length z ≤ length y → NotBefore x y → NotBefore y z → NotBefore x z
NotBefore-between [] y z le h k b = b
NotBefore-between (a ∷ x) y [] le h k b = b
NotBefore-between (a ∷ x) [] (c ∷ z) le h k b = omega arith
NotBefore-between (a ∷ x) (b ∷ y) (c ∷ z) le h k t =
    by_lt_z a b (λ p. h (inl p)) (λ p. by_lt_z b c (λ q. k (inl q)) (λ q. go p q (NotBefore-between x y z (omega arith)) t))
  where
    go : b ≤ℤ a → c ≤ℤ b → (NotBefore x y → NotBefore y z → NotBefore x z) → Before (a ∷ x) (c ∷ z) → ⊥
    go p q rest (inl i) = omega (arith, ints)
    go p q rest (inr i) =
        let e : a ≡ c = i.0 in
        rest (λ j. h (inr (omega (arith, ints), j))) (λ j. k (inr (omega (arith, ints), j))) i.1
